-- The order of bytes is the guest's, and code is split where it calls.
use Rattle.std.proofs.Common.{◌≡◌, ℕ, Bool, List, [], ◌∷◌, ◌++◌, append_assoc, subst, sym, ◌∙◌}
use Rattle.mips_definition.specs.State.{State}
use Rattle.mips_definition.specs.declared.inst.Inst.{Inst}
use Rattle.delay_slots.specs.Turns.{done}
use Rattle.block_builder.specs.Registers.{read_by, written_by}
use Rattle.jvm_definition.specs.Effect.{Workspace}
use Rattle.emit_steps.specs.declared.step.Step.{Step}
use Rattle.emit_steps.specs.Placing.{LiesAt}
use Rattle.emit_instructions.specs.Units.{instruction_code}
use Rattle.emit_simulation_laws.specs.Knowing.{AreKnown, HasFields}
use Rattle.emit_simulation_laws.specs.Holding.{HoldsOn}
use Rattle.emit_simulation_laws.specs.Sites.{Site}
use Rattle.emit_instructions_laws.specs.Instructions.{IsReady, InstructionFollows}
use Rattle.emit_instructions_laws.proofs.InstructionLaws.Results.{CodeFollows}

-- the statement of `InstructionFollows` for the guest's own order of bytes
abbrev pub FollowsInItsOrder : Inst → Type 0
FollowsInItsOrder i =
    (site : Site) (bank : ℕ) (known : ℕ → Bool) (at : ℕ) (w : Workspace) (s : State) → IsReady site s.order → LiesAt site.program site.method at (instruction_code bank i s.pc) → HasFields i → AreKnown known (read_by i) → HoldsOn bank known w s → CodeFollows site s.order bank known at w (written_by i) (instruction_code bank i s.pc) (done i s)

pub in-each-order : (i : Inst) → FollowsInItsOrder i → InstructionFollows i
in-each-order i follows = λ site order bank known at w s ready order_is lies fields reads h.
    subst (λ o. IsReady site o → CodeFollows site o bank known at w (written_by i) (instruction_code bank i s.pc) (done i s)) order_is
    (λ own. follows site bank known at w s own lies fields reads h) ready

-- ---- a word is pushed and a method is called

-- with code behind the call
pub called-before : (first back : List Step) (p c : Step) → (first ++ p ∷ []) ++ c ∷ back ≡ (first ++ p ∷ c ∷ []) ++ back
called-before first back p c = append_assoc first (p ∷ []) (c ∷ back) ∙ sym (append_assoc first (p ∷ c ∷ []) back)

pub called-last : (first : List Step) (p c : Step) → (first ++ p ∷ []) ++ c ∷ [] ≡ first ++ p ∷ c ∷ []
called-last first p c = append_assoc first (p ∷ []) (c ∷ [])
