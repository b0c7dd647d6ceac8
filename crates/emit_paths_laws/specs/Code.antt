-- What a stretch of code counts, by computation over its lines.
use Rattle.std.specs.Prelude.{◌≡◌, ℕ, zero, suc, ◌&&◌, Bool, nat_lt, List, [], ◌∷◌, Option, Some, None}
use Rattle.std.specs.List.{list_all, sum_by}
use Rattle.run_simulation_laws.specs.Trail.{advanced}
use Rattle.jvm_definition.specs.declared.linked_line.LinkedLine.{LinkedLine}
use Rattle.jvm_definition.specs.declared.instruction.Instruction.{Instruction}
use Rattle.jvm_definition.specs.Program.{Program, line_in, linked_line_at, instruction_targets}
use Rattle.jvm_definition.specs.Effect.{Workspace, enters, gives, instruction_effect}
use Rattle.jvm_definition_laws.specs.Stretch.{Point, passed, body_workspace}
use Rattle.emit_steps.specs.Offsets.{CodeOffset}
use Rattle.jvm_definition.specs.Step.{Frame, frame_placed, jvm_turn}
use Rattle.jvm_definition.specs.declared.value.Value.{Value}

-- a line before those that follow where it leads
abbrev pub line_then : Option LinkedLine → Option Point → (Point → List LinkedLine)
    → List LinkedLine
line_then None p on = []
line_then (Some line) None on = line ∷ []
line_then (Some line) (Some p) on = line ∷ on p

-- the lines that so many instructions execute, from an offset on
abbrev pub passes : Program → ℕ → List LinkedLine → ℕ → CodeOffset → Workspace
    → List LinkedLine
passes program words lines zero at w = []
passes program words lines (suc n) at w =
    line_then (line_in lines at) (passed program words (line_in lines at) w)
    (λ p. passes program words lines n p.at p.workspace)

-- what lines count
abbrev pub weight_of : (Instruction → ℕ) → List LinkedLine → ℕ
weight_of weight lines = sum_by (λ (l : LinkedLine). weight l.instruction) lines

-- a line that goes on only to what stands behind it
abbrev pub goes_forward : LinkedLine → Bool
goes_forward line = nat_lt line.at line.next
    && list_all (λ t. nat_lt line.at t) (instruction_targets line.instruction)

abbrev pub all_forward : List LinkedLine → Bool
all_forward lines = list_all goes_forward lines

-- ---- calls in calls

-- the frame of a caller, while what it called runs
abbrev pub waiting_frame : ℕ → LinkedLine → Workspace → Frame
waiting_frame m line caller = record {
  method = m;
  at = line.next;
  locals = caller.locals;
  operands = caller.operands;
}

-- A line calls a method with arguments, and so many turns that only move lead from the method's start to a line of it that returns.
-- They may go through further calls.
pub record CallsThrough (program : Program) (words m : ℕ) (line : LinkedLine) (w : Workspace)
    (others : List Frame) (n : ℕ) (result : Option Value) (caller back : Workspace)
    : Type 0 where
  pub stands : linked_line_at program m line.at ≡ Some line
  pub callee : ℕ
  pub given : List Value
  pub calls : instruction_effect program words line.instruction w ≡ enters callee given caller
  pub end_at : Point
  pub runs : advanced (jvm_turn program words) n
      (frame_placed callee 0 (body_workspace given caller) (waiting_frame m line caller ∷ others))
      ≡ Some (frame_placed callee end_at.at end_at.workspace (waiting_frame m line caller ∷ others))
  pub last : LinkedLine
  pub last_stands : linked_line_at program callee end_at.at ≡ Some last
  pub returns : instruction_effect program words last.instruction end_at.workspace ≡ gives result back
