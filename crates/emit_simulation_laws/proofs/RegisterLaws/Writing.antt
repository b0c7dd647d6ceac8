-- Registers that are written.
use Rattle.std.proofs.Common.{◌≡◌, ℕ, ◌==◌, ◌<◌, Bool, true, false, if◌then◌else◌, List, ◌∷◌, refl, arith}
use Rattle.std.proofs.lemmas.Grind.{common_steps}
use Rattle.run_definition.specs.Words.{IsWord}
use Rattle.mips_definition.specs.State.{State, with_register}
use Rattle.jvm_definition.specs.declared.stack_name.StackName.TheVariants.{Pop}
use Rattle.jvm_definition.specs.declared.value.Value.{Value}
use Rattle.jvm_definition.specs.declared.value.Value.TheVariants.{Int as int}
use Rattle.jvm_definition.specs.declared.local_kind.LocalKind.TheVariants as local_kinds
use Rattle.jvm_definition.specs.declared.instruction.Instruction.TheVariants as instructions
use Rattle.jvm_definition.specs.Program.{Program}
use Rattle.jvm_definition.specs.Effect.{Workspace, with_operands, with_local, with_field}
use Rattle.emit_steps.specs.declared.step.Step.{Step}
use Rattle.emit_steps.specs.declared.step.Step.TheVariants.{Does}
use Rattle.emit_steps.specs.Outcomes.{later, outcome}
use Rattle.emit_layout.specs.FieldNumbers.{register_field}
use Rattle.emit_instructions.specs.Access.{put_register, keeps, put_field}
use Rattle.emit_simulation_laws.specs.Knowing.{gaining}
use Rattle.emit_simulation_laws.specs.Holding.{HoldsOn, Keeps, KeepsGoal, with_value}

-- what is left to do with a word taken
abbrev pub Puts : Program → ℕ → Step → List Step → Workspace → Workspace → Type 0
Puts program words step code w v = outcome program words (step ∷ code) w ≡ later (outcome program words code v)

to-bank : (program : Program) (words d n : ℕ) (code : List Step) (w : Workspace) (rest : List Value) (b : Bool) → Puts program words (if b then Does (instructions.Store local_kinds.Int d) else put_field (register_field d)) code (with_operands w (int n ∷ rest)) (if b then with_local w d (int n) rest else with_field w (register_field d) (int n) rest)
to-bank program words d n code w rest true = refl
to-bank program words d n code w rest false = refl

by-number : (program : Program) (words bank d n : ℕ) (code : List Step) (w : Workspace) (rest : List Value) (b : Bool) → Puts program words (if b then Does (instructions.Stack Pop) else if keeps bank d then Does (instructions.Store local_kinds.Int d) else put_field (register_field d)) code (with_operands w (int n ∷ rest)) (if b then with_operands w rest else if keeps bank d then with_local w d (int n) rest else with_field w (register_field d) (int n) rest)
by-number program words bank d n code w rest true = refl
by-number program words bank d n code w rest false = to-bank program words d n code w rest (keeps bank d)

pub register-put : (program : Program) (words bank d n : ℕ) (code : List Step) (w : Workspace) (rest : List Value) → Puts program words (put_register bank d) code (with_operands w (int n ∷ rest)) (with_value bank d (int n) w rest)
register-put program words bank d n code w rest = by-number program words bank d n code w rest (d == 0)

pub register-held : (bank d n : ℕ) (known : ℕ → Bool) (w : Workspace) (s : State) (operands : List Value) → d < 32 → IsWord n → HoldsOn bank known w s → HoldsOn bank (gaining known d) (with_value bank d (int n) w operands) (with_register s d n)
register-held bank d n known w s operands below word h = grind (arith, common_steps)

pub register-kept : (bank d n : ℕ) (w : Workspace) → Keeps bank w (with_value bank d (int n) w w.operands)
register-kept bank d n w = grind (arith, common_steps)

pub register-goal-kept : (bank d n : ℕ) (w : Workspace) (operands : List Value) → d < 32 → KeepsGoal w (with_value bank d (int n) w operands)
register-goal-kept bank d n w operands below = grind (arith, common_steps)
