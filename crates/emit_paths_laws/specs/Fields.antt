-- When a field is left alone.
use Rattle.std.specs.Prelude.{◌≡◌, ℕ, Some}
use Rattle.std.specs.List.{sum_by}
use Rattle.run_definition.specs.Question.{Question}
use Rattle.run_definition.specs.Answer.{Answer}
use Rattle.run_definition.specs.Turn.{moves, asks}
use Rattle.run_simulation_laws.specs.Trail.{advanced, moved, stood}
use Rattle.jvm_definition.specs.declared.instruction.Instruction.{Instruction}
use Rattle.jvm_definition.specs.Program.{Program}
use Rattle.jvm_definition.specs.Step.{JvmState, jvm_turn}
use Rattle.emit_steps.specs.Offsets.{CodeOffset}
use Rattle.emit_paths_laws.specs.Classes.{executed, puts}
use Rattle.emit_paths_laws.specs.Paths.{Path}

-- Field f holds the same in both states.
abbrev pub IsLeft : ℕ → JvmState → JvmState → Type 0
IsLeft f x y = y.fields f ≡ x.fields f

-- A field is changed by writes of it alone.
pub record FieldsAreLeft (program : Program) (words f : ℕ) : Type 0 where
  -- a turn that moves, and executes no write of it, leaves it
  pub turns : (x y : JvmState) → jvm_turn program words x ≡ moves y
      → executed program (puts f) (stood x) ≡ 0
      → IsLeft f x y
  -- a call of the system leaves it, whatever the answer
  pub answers : (x : JvmState) (q : Question) (next : Answer → JvmState) (a : Answer)
      → jvm_turn program words x ≡ asks q next
      → IsLeft f x (next a)
  -- turns that only move, none of which executes a write of it, leave it
  pub trails : (n : ℕ) (x y : JvmState) → advanced (jvm_turn program words) n x ≡ Some y
      → sum_by (executed program (puts f)) (moved (jvm_turn program words) n x) ≡ 0
      → IsLeft f x y
  -- so does a path over code that weighs no write of it
  pub paths : (m : ℕ) (low high : CodeOffset) (n : ℕ) (total : (Instruction → ℕ) → ℕ) (x y : JvmState)
      → Path program words m low high n total x y
      → total (puts f) ≡ 0
      → IsLeft f x y
