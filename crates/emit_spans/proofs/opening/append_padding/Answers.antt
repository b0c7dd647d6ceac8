use Rattle.std.proofs.Common.{◌∷◌, [], ◌++◌, replicate, ap, ◌∙◌, append_assoc}
use Rattle.std.proofs.lemmas.List.{replicate-append-replicate}
use Rattle.emit_steps.specs.declared.step.Step.{Step}
use Rattle.emit_steps.specs.declared.step.Step.TheVariants.{Does}
use Rattle.jvm_definition.specs.declared.instruction.Instruction.TheVariants.{Nop}
use Rattle.emit_spans.proofs.opening.append_padding.Goals as goal

pub loop-preserved : goal.loop-preserved
loop-preserved c =
    let nop : Step = Does Nop in
    c.in_ok-push.ensures.items
    ∙ ap (λ code. code ++ nop ∷ []) c.loop.invariant
    ∙ append_assoc c.args.code.now.items (replicate c.loop.counter nop) (nop ∷ [])
    ∙ ap (λ code. c.args.code.now.items ++ code) (replicate-append-replicate c.loop.counter 1 nop)
