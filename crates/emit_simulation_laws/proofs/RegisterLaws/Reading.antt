-- Registers that are read.
use Rattle.std.proofs.Common.{◌≡◌, ℕ, ◌==◌, ◌<◌, Bool, true, false, if◌then◌else◌, inl, inr, List, ◌∷◌, refl, ap, subst, sym, arith, lit<}
use Rattle.std.proofs.lemmas.Bool.{eqb-false}
use Rattle.run_definition.specs.Words.{IsWord}
use Rattle.mips_definition.specs.State.{State, register}
use Rattle.jvm_definition.specs.declared.value.Value.TheVariants.{Int as int}
use Rattle.jvm_definition.specs.declared.local_kind.LocalKind.TheVariants as local_kinds
use Rattle.jvm_definition.specs.declared.instruction.Instruction.TheVariants as instructions
use Rattle.jvm_definition.specs.Program.{Program}
use Rattle.jvm_definition.specs.Effect.{Workspace, with_operands, pushes, moves_value, wrong}
use Rattle.emit_steps.specs.declared.step.Step.{Step}
use Rattle.emit_steps.specs.declared.step.Step.TheVariants.{Does}
use Rattle.emit_steps.specs.Outcomes.{later, outcome, outcome_from, after_instruction}
use Rattle.emit_layout.specs.FieldNumbers.{register_field}
use Rattle.emit_instructions.specs.Access.{get_register, keeps, get_field, push_word}
use Rattle.emit_simulation_laws.specs.Knowing.{IsKnown}
use Rattle.emit_simulation_laws.specs.Holding.{HoldsOn, reached}

-- what is left to do with a word pushed
abbrev pub Pushes : Program → ℕ → Step → List Step → Workspace → ℕ → Type 0
Pushes program words step code w n =
    outcome program words (step ∷ code) w ≡ later (outcome program words code (with_operands w (int n ∷ w.operands)))

-- a register other than 0, in its local variable or its field
from-bank : (program : Program) (words r n : ℕ) (code : List Step) (w : Workspace) (b : Bool) → (if b then w.locals r else w.fields (register_field r)) ≡ int n → Pushes program words (if b then Does (instructions.Load local_kinds.Int r) else get_field (register_field r)) code w n
from-bank program words r n code w true is =
    ap (λ v. after_instruction w (if moves_value local_kinds.Int v then pushes w v w.operands else wrong) (outcome_from program words code 0)) is
from-bank program words r n code w false is =
    ap (λ v. after_instruction w (pushes w v w.operands) (outcome_from program words code 0)) is

-- the word of a register, 0 for register 0
abbrev pub word_of : (ℕ → ℕ) → ℕ → ℕ
word_of registers r = if r == 0 then 0 else registers r

by-number : (program : Program) (words bank r : ℕ) (registers : ℕ → ℕ) (code : List Step) (w : Workspace) (b : Bool) → (b ≡ false → reached bank w r ≡ int (registers r)) → Pushes program words (if b then push_word 0 else if keeps bank r then Does (instructions.Load local_kinds.Int r) else get_field (register_field r)) code w (if b then 0 else registers r)
by-number program words bank r registers code w true is = refl
by-number program words bank r registers code w false is = from-bank program words r (registers r) code w (keeps bank r) (is refl)

pub register-pushed : (program : Program) (words bank r : ℕ) (known : ℕ → Bool) (code : List Step) (w : Workspace) (s : State) → HoldsOn bank known w s → IsKnown known r → Pushes program words (get_register bank r) code w (register s r)
register-pushed program words bank r known code w s h (inl e) =
    by-number program words bank r s.registers code w (r == 0) (λ no. absurd (eqb-false r 0 no e))
register-pushed program words bank r known code w s h (inr is) =
    by-number program words bank r s.registers code w (r == 0) (λ no. let ne = eqb-false r 0 no in h.register_is r (omega arith) is.0 is.1)

-- ---- every register holds a word

pub register-word : (bank r : ℕ) (known : ℕ → Bool) (w : Workspace) (s : State) → HoldsOn bank known w s → r < 32 → IsWord (register s r)
register-word bank r known w s h below = by_test (r == 0) refl
  where
    by_test : (b : Bool) → (r == 0) ≡ b → IsWord (if b then 0 else s.registers r)
    by_test true e = lit< tt
    by_test false e = let ne = eqb-false r 0 e in h.register_word r (omega arith) below

pub known-word : (bank r : ℕ) (known : ℕ → Bool) (w : Workspace) (s : State) → HoldsOn bank known w s → IsKnown known r → IsWord (register s r)
known-word bank r known w s h (inl e) = subst (λ n. IsWord (register s n)) (sym e) (lit< tt)
known-word bank r known w s h (inr is) = register-word bank r known w s h is.0
