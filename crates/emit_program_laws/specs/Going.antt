-- How the classes go on, and what their turns count.
use Rattle.std.specs.Prelude.{◌≡◌, ℕ, ◌≤◌, Bool, List, [], ◌∷◌, Some}
use Rattle.std.specs.List.{sum_by}
use Rattle.run_simulation_laws.specs.Trail.{advanced, moved}
use Rattle.jvm_definition.specs.declared.value.Value.{Value}
use Rattle.jvm_definition.specs.declared.instruction.Instruction.{Instruction}
use Rattle.jvm_definition.specs.Program.{Program}
use Rattle.jvm_definition.specs.Values.{Heap}
use Rattle.jvm_definition.specs.Effect.{Workspace}
use Rattle.jvm_definition.specs.Step.{JvmState, Frame, frame_placed, jvm_turn}
use Rattle.emit_paths_laws.specs.Classes.{executed, puts}
use Rattle.emit_paths_laws.specs.Paths.{LooksAtNoTarget}
use Rattle.emit_spans_laws.specs.GuestCodeLaws.Counting.{Counts}

-- So many turns that only move lead from one state to another, count at most so much, and write no field.
pub record Goes (program : Program) (words : ℕ) (is_span : ℕ → Bool) (n most_reads most_entries : ℕ)
    (x y : JvmState) : Type 0 where
  pub total : (Instruction → ℕ) → ℕ
  pub counts : Counts is_span most_reads most_entries total
  pub writes_none : (f : ℕ) → total (puts f) ≡ 0
  pub comes : advanced (jvm_turn program words) n x ≡ Some y
  pub weighs : (weight : Instruction → ℕ) → LooksAtNoTarget weight
      → sum_by (executed program weight) (moved (jvm_turn program words) n x) ≤ total weight

-- At most so many such turns lead from a state to one of which something is said.
pub record ComesTo (program : Program) (words : ℕ) (is_span : ℕ → Bool)
    (most most_reads most_entries : ℕ) (Arrives : JvmState → Type 0) (x : JvmState) : Type 0 where
  pub turns : ℕ
  pub in_time : turns ≤ most
  pub after : JvmState
  pub goes : Goes program words is_span turns most_reads most_entries x after
  pub arrives : Arrives after

-- ---- frames that wait

-- a frame runs, above others
abbrev pub with_frame : Frame → List Frame → (ℕ → Value) → Heap → JvmState
with_frame f others fields heap = record { fields = fields; heap = heap; frames = f ∷ others }

-- what it works on, where it has no operands
abbrev pub work_of : Frame → (ℕ → Value) → Heap → Workspace
work_of f fields heap = record { locals = f.locals; operands = []; fields = fields; heap = heap }

-- A frame waits in a method that chooses: whatever is in fields and arrays, it comes back to the method's beginning in at most 12 turns, and
-- counts nothing.
pub record Waits (program : Program) (words : ℕ) (is_span : ℕ → Bool) (m : ℕ) (f : Frame)
    (others : List Frame) : Type 0 where
  pub no_operands : f.operands ≡ []
  pub turns_back : ℕ
  pub in_time : turns_back ≤ 12
  pub back : (fields : ℕ → Value) (heap : Heap)
      → Goes program words is_span turns_back 0 0 (with_frame f others fields heap)
      (frame_placed m 0 (work_of f fields heap) others)
