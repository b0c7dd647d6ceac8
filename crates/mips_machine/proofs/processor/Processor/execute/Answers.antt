-- A jump that links reads where it stands.
use Rattle.std.proofs.Common.{◌≡◌, ap, sym, ◌∙◌, subst}
use Rattle.mips_definition.specs.Branches.{jump_effect, jump_and_link_register_effect}
use Rattle.mips_definition.specs.Step.{effect}
use Rattle.mips_definition.specs.declared.inst.Inst.{Inst}
use Rattle.mips_machine.specs.Moving.{at_word}
use Rattle.mips_machine.specs.Processor.{processor_state, effect_of}
use Rattle.mips_machine.proofs.processor.Processor.execute.Goals as goal

pub returns-in-JumpAndLinkRegister-clause-effect : goal.returns-in-JumpAndLinkRegister-clause-effect
unfolding processor_state
returns-in-JumpAndLinkRegister-clause-effect c =
    let s = processor_state c.args.self.now in
    subst (λ pc. effect_of c.jump_and_link_register.result (at_word s pc) ≡ jump_and_link_register_effect (at_word s pc) c.in-JumpAndLinkRegister.rs c.in-JumpAndLinkRegister.rd)
    c.pc-in-JumpAndLinkRegister.ensures c.jump_and_link_register.ensures.effect
    ∙ ap (λ (x : Inst). effect x c.args.word s) (sym c.in-JumpAndLinkRegister.is)

pub returns-in-Jump-clause-effect : goal.returns-in-Jump-clause-effect
unfolding processor_state
returns-in-Jump-clause-effect c =
    let s = processor_state c.args.self.now in
    subst (λ pc. effect_of c.jump.result (at_word s pc) ≡ jump_effect c.in-Jump.name (at_word s pc) c.in-Jump.index) c.pc-in-Jump.ensures c.jump.ensures.effect
    ∙ ap (λ (x : Inst). effect x c.args.word s) (sym c.in-Jump.is)
