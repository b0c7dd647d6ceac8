-- Where the outcome of code leads the class machine, wherever the code lies.
use Rattle.std.specs.Prelude.{◌≡◌, ℕ, suc, ◌+◌, List, slice_get, Option, Some}
use Rattle.jvm_definition.specs.declared.linked_line.LinkedLine.{LinkedLine}
use Rattle.jvm_definition.specs.declared.value.Value.{Value}
use Rattle.jvm_definition.specs.Program.{Program}
use Rattle.jvm_definition.specs.Effect.{Workspace, InstructionEffect, gives}
use Rattle.jvm_definition.specs.Step.{JvmState, Frame, frame_placed, jvm_turn, jvm_turn_by}
use Rattle.jvm_definition_laws.specs.Stretch.{advanced, body_workspace}
use Rattle.emit_steps.specs.declared.step.Step.{Step}
use Rattle.emit_steps.specs.Widths.{bytes_before, size}
use Rattle.emit_steps.specs.Offsets.{CodeOffset}
use Rattle.emit_steps.specs.Outcomes.{Outcome, ended, left, stopped, outcome}
use Rattle.emit_steps.specs.Placing.{laid, LiesAt}

-- The machine stands at the i-th step of code that lies at an offset of a method, and its next turn is by this effect.
pub record StopsAt (program : Program) (words m : ℕ) (at : CodeOffset) (code : List Step)
    (others : List Frame) (i : ℕ) (w : Workspace) (e : InstructionEffect) : Type 0 where
  pub line : LinkedLine
  pub line_is : slice_get (laid at code) i ≡ Some line
  pub next_is : line.next ≡ at + bytes_before code (suc i)
  pub turns : jvm_turn program words (frame_placed m (at + bytes_before code i) w others)
      ≡ jvm_turn_by e m line others

-- So many turns that only move lead from a state to where the outcome says.
abbrev pub LeadsTo : Program → ℕ → ℕ → CodeOffset → List Step → List Frame → JvmState → Outcome
    → Type 0
LeadsTo program words m at code others x (ended n w) =
    advanced (jvm_turn program words) n x ≡ Some (frame_placed m (at + size code) w others)
LeadsTo program words m at code others x (left n target w) =
    advanced (jvm_turn program words) n x ≡ Some (frame_placed m target w others)
LeadsTo program words m at code others x (stopped n i w e) =
    (advanced (jvm_turn program words) n x ≡ Some (frame_placed m (at + bytes_before code i) w others))
    × StopsAt program words m at code others i w e

-- A method whose code, called with arguments, leads to its return within so many instructions, with a result and what is then there.
pub record Returns (program : Program) (words callee : ℕ) (given : List Value) (caller : Workspace)
    (n : ℕ) (result : Option Value) (back : Workspace) : Type 0 where
  pub body : List Step
  pub lies : LiesAt program callee 0 body
  pub at : ℕ
  pub before : Workspace
  pub returns : outcome program words body (body_workspace given caller)
      ≡ stopped n at before (gives result back)
