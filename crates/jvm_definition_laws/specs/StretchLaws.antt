-- What holds of code that stands in a method, and of turns that only move.
use Rattle.std.specs.Prelude.{◌≡◌, ℕ, ◌+◌, ◌<◌, List, ◌∷◌, length, Option, Some, option_and_then}
use Rattle.run_definition.specs.Question.{Question}
use Rattle.run_definition.specs.Answer.{Answer}
use Rattle.run_definition.specs.Run.{run_of}
use Rattle.jvm_definition.specs.declared.linked_line.LinkedLine.{LinkedLine}
use Rattle.jvm_definition.specs.declared.value.Value.{Value}
use Rattle.jvm_definition.specs.Program.{Program, line_in}
use Rattle.jvm_definition.specs.Effect.{Workspace, instruction_effect, enters}
use Rattle.jvm_definition.specs.Step.{JvmState, Frame, frame_placed, jvm_turn, jvm_turn_by}
use Rattle.jvm_definition_laws.specs.Stretch.{Point, advanced, stretch, StandsAt, CallsAndReturns, moved_line, body_workspace, caller_workspace}

-- ---- code that stands in a method

-- Lines stand in a method from an offset on, and so many of their instructions, run by themselves,
-- lead to a point.
pub record StandingStretch (program : Program) (words m by n at : ℕ) (lines : List LinkedLine)
    (w : Workspace) (p : Point) : Type 0 where
  pub stands : StandsAt program m by lines
  pub leads : stretch program words lines n at w ≡ Some p

-- Lines stand in a method from an offset on, and this is the one at an offset of theirs.
pub record StandingLine (program : Program) (m by at : ℕ) (lines : List LinkedLine)
    (line : LinkedLine) : Type 0 where
  pub stands : StandsAt program m by lines
  pub line_is : line_in lines at ≡ Some line

-- a stretch is a run of the machine wherever it stands, with the same count of instructions
abbrev pub StretchesRun : Type 0
StretchesRun =
    (program : Program) (words m by n at : ℕ) (lines : List LinkedLine) (w : Workspace)
    (others : List Frame) (p : Point)
    → StandingStretch program words m by n at lines w p
    → advanced (jvm_turn program words) n (frame_placed m (by + at) w others)
    ≡ Some (frame_placed m (by + p.at) p.workspace others)

-- where a line stands, the turn is by its effect, and its targets are as far on as the code is
abbrev pub LinesTurn : Type 0
LinesTurn =
    (program : Program) (words m by at : ℕ) (lines : List LinkedLine) (line : LinkedLine)
    (w : Workspace) (others : List Frame)
    → StandingLine program m by at lines line
    → jvm_turn program words (frame_placed m (by + at) w others)
    ≡ jvm_turn_by (instruction_effect program words line.instruction w) m (moved_line by line) others

-- ---- so many instructions and then others

pub record StretchesCompose (program : Program) (words n k : ℕ) : Type 0 where
  pub stretches : (at : ℕ) (lines : List LinkedLine) (w : Workspace)
      → stretch program words lines (n + k) at w
      ≡ option_and_then (λ (p : Point). stretch program words lines k p.at p.workspace)
      (stretch program words lines n at w)
  pub turns : (s : JvmState)
      → advanced (jvm_turn program words) (n + k) s
      ≡ option_and_then (advanced (jvm_turn program words) k) (advanced (jvm_turn program words) n s)

-- ---- calls

-- the frame of a caller that goes on at an offset of its method
abbrev pub frame_of_caller : ℕ → ℕ → Workspace → Frame
frame_of_caller m at caller = record {
  method = m;
  at = at;
  locals = caller.locals;
  operands = caller.operands;
}

-- a call leads to the start of the method's code, with its arguments, above the caller, which waits
-- behind the call
abbrev pub CallsEnter : Type 0
CallsEnter =
    (program : Program) (words m by at callee : ℕ) (lines : List LinkedLine) (line : LinkedLine)
    (w caller : Workspace) (given : List Value) (others : List Frame)
    → StandingLine program m by at lines line
    → instruction_effect program words line.instruction w ≡ enters callee given caller
    → length others < 63
    → advanced (jvm_turn program words) 1 (frame_placed m (by + at) w others)
    ≡ Some (frame_placed callee 0 (body_workspace given caller)
    (frame_of_caller m (by + line.next) caller ∷ others))

-- a call of a method whose body leads to its return is these instructions and two more
abbrev pub CallsComeBack : Type 0
CallsComeBack =
    (program : Program) (words m n : ℕ) (line : LinkedLine) (w caller back : Workspace)
    (result : Option Value) (others : List Frame)
    → CallsAndReturns program words m line w n result caller back
    → length others < 63
    → advanced (jvm_turn program words) (n + 2) (frame_placed m line.at w others)
    ≡ Some (frame_placed m line.next (caller_workspace result caller back) others)

-- ---- runs

-- over a kind of system state, a run that begins with turns that only move is the run from where
-- they lead
abbrev pub RunsBeginWithMoves : {K : Type 0} → (K → Question → Option (Answer × K)) → Type 0
RunsBeginWithMoves {K} reply =
    (program : Program) (words n k : ℕ) (s t : JvmState) (system : K)
    → advanced (jvm_turn program words) n s ≡ Some t
    → run_of (jvm_turn program words) reply (n + k) s system
    ≡ run_of (jvm_turn program words) reply k t system
