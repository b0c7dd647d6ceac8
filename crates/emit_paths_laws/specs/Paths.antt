-- Paths of the class machine through code: turns that only move, with what they count and the offsets at which they are made.
use Rattle.std.specs.Prelude.{◌≡◌, ℕ, ◌+◌, ◌≤◌, List, [], ◌∷◌, take, drop, Some}
use Rattle.std.specs.List.{sum_by}
use Rattle.run_simulation_laws.specs.Trail.{advanced, moved}
use Rattle.run_simulation_laws.specs.Places.{Rises, visited}
use Rattle.jvm_definition.specs.declared.branch_name.BranchName.{BranchName}
use Rattle.jvm_definition.specs.declared.branch_name.BranchName.TheVariants.{Goto}
use Rattle.jvm_definition.specs.declared.instruction.Instruction.{Instruction}
use Rattle.jvm_definition.specs.declared.instruction.Instruction.TheVariants.{Branch, TableSwitch, Call}
use Rattle.jvm_definition.specs.Program.{Program}
use Rattle.jvm_definition.specs.Effect.{Workspace}
use Rattle.jvm_definition.specs.Step.{JvmState, Frame, frame_placed, jvm_turn}
use Rattle.emit_steps.specs.declared.step.Step.{Step}
use Rattle.emit_steps.specs.declared.step.Step.TheVariants.{Does, Skips, Leaves, Selects}
use Rattle.emit_steps.specs.Widths.{bytes_before, size}
use Rattle.emit_steps.specs.Offsets.{CodeOffset}
use Rattle.emit_steps.specs.Outcomes.{Outcome, ended, left, stopped}
use Rattle.emit_steps.specs.Placing.{placed_line}
use Rattle.emit_steps.specs.Leading.{StopsAt}
use Rattle.emit_paths_laws.specs.Classes.{executed, place_in}
use Rattle.emit_paths_laws.specs.Code.{waiting_frame}

-- ---- what steps weigh

-- a weight of instructions that looks at no target
abbrev pub LooksAtNoTarget : (Instruction → ℕ) → Type 0
LooksAtNoTarget weight = (name : BranchName) (t u : ℕ)
    → weight (Branch name t) ≡ weight (Branch name u)

-- what the instruction of a step weighs, wherever the step lies
abbrev pub step_weight : (Instruction → ℕ) → Step → ℕ
step_weight weight (Does instruction) = weight instruction
step_weight weight (Skips name k) = weight (Branch name 0)
step_weight weight (Leaves target) = weight (Branch Goto 0)
step_weight weight (Selects s) = weight (TableSwitch s)

-- what steps weigh together
abbrev pub weigh : (Instruction → ℕ) → List Step → ℕ
weigh weight [] = 0
weigh weight (s ∷ code) = step_weight weight s + weigh weight code

-- ---- paths

-- So many turns that only move lead from one state to another. Whatever the executed instructions weigh, it is at most this total, and
-- the offsets of method m at which they stand rise from `low` and lie before `high`.
pub record Path (program : Program) (words m : ℕ) (low high : CodeOffset) (n : ℕ)
    (total : (Instruction → ℕ) → ℕ) (x y : JvmState) : Type 0 where
  pub comes : advanced (jvm_turn program words) n x ≡ Some y
  pub counts : (weight : Instruction → ℕ) → LooksAtNoTarget weight
      → sum_by (executed program weight) (moved (jvm_turn program words) n x) ≤ total weight
  pub rises : Rises low (visited (place_in m) (moved (jvm_turn program words) n x)) high

-- ---- paths through code

-- A path, seen from method m, from the k-th step of code that lies at an offset of method `own` to where its outcome leads. It weighs no more
-- than the steps between: those before the k-th, and those from the one on where the code stops, weigh nothing. `high` tells how high a path
-- lies that has come to an offset of the code's method.
abbrev pub PathTo : Program → (words own m : ℕ) (low : CodeOffset)
    → (high : CodeOffset → CodeOffset) → (at : CodeOffset) (k : ℕ) → List Step → List Frame → JvmState
    → Outcome → Type 0
PathTo program words own m low high at k code others x (ended n w) =
    Path program words m low (high (at + size code)) n (λ weight. weigh weight (drop k code)) x
    (frame_placed own (at + size code) w others)
PathTo program words own m low high at k code others x (left n target w) =
    Path program words m low (high (at + size code)) n (λ weight. weigh weight (drop k code)) x
    (frame_placed own target w others)
PathTo program words own m low high at k code others x (stopped n i w e) =
    Path program words m low (high (at + bytes_before code i)) n
    (λ weight. weigh weight (drop k (take i code))) x
    (frame_placed own (at + bytes_before code i) w others)
    × StopsAt program words own at code others i w e

-- seen from the code's own method: it rises from the k-th step, and lies before the code's end, or before the step where it stops
abbrev pub PathWithin : Program → (words m : ℕ) (at : CodeOffset) (k : ℕ) → List Step → List Frame
    → JvmState → Outcome → Type 0
PathWithin program words m at k code others x o =
    PathTo program words m m (at + bytes_before code k) (λ a. a) at k code others x o

-- seen from another method: nothing is visited, so it lies at any offset
abbrev pub PathElsewhere : Program → (words own m : ℕ) (low at : CodeOffset) (k : ℕ) → List Step
    → List Frame → JvmState → Outcome → Type 0
PathElsewhere program words own m low at k code others x o =
    PathTo program words own m low (λ a. low) at k code others x o

-- ---- calls

-- the frame of a caller, behind a call that lies at an offset of its method
abbrev pub waiting_behind : (own : ℕ) (at : CodeOffset) (h : ℕ) → Workspace → Frame
waiting_behind own at h caller = waiting_frame own (placed_line at (Does (Call h)) []) caller
