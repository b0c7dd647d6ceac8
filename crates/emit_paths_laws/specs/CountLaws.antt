-- What holds of what the runs of both machines count.
use Rattle.std.specs.Prelude.{◌≡◌, ◌≢◌, ℕ, ◌+◌, ◌≤◌, List, [], ◌∷◌, map, length, Option, Some}
use Rattle.std.specs.List.{sum_by}
use Rattle.run_definition.specs.Question.{Question}
use Rattle.run_definition.specs.Answer.{Answer, next_answer}
use Rattle.run_definition.specs.Run.{run_of}
use Rattle.run_simulation_laws.specs.Trail.{trail_of, after_call, advanced, moved}
use Rattle.run_simulation_laws.specs.Places.{Rises, visited}
use Rattle.mips_definition.specs.State as guest
use Rattle.mips_definition.specs.Step as guest_step
use Rattle.jvm_definition.specs.declared.linked_line.LinkedLine.{LinkedLine}
use Rattle.jvm_definition.specs.declared.instruction.Instruction.{Instruction}
use Rattle.jvm_definition.specs.declared.value.Value.{Value}
use Rattle.jvm_definition.specs.Program.{Program}
use Rattle.jvm_definition.specs.Effect.{Workspace}
use Rattle.jvm_definition.specs.Step.{JvmState, Frame, frame_placed, jvm_turn, loaded_turn}
use Rattle.jvm_definition_laws.specs.Stretch.{Point, moved_instruction, StandsAt, CallsAndReturns, body_workspace, caller_workspace}
use Rattle.emit_steps.specs.Offsets.{CodeOffset}
use Rattle.emit_paths_laws.specs.Guest.{Span, crossings, partial}
use Rattle.emit_paths_laws.specs.Classes.{executed, executed_loaded, place_in, with_state, IsRunLoaded}
use Rattle.emit_paths_laws.specs.Code.{passes, weight_of, waiting_frame, CallsThrough}

-- ---- the guest

-- What a run of the guest counts from its start on is what it counts after its first call, the
-- loader's.
pub record LoaderCountsNothing (n : ℕ) (s : guest.State) (answers : List Answer) : Type 0 where
  pub crossings : (spans : List Span)
      → crossings spans (trail_of guest_step.turn next_answer n s answers)
      ≡ crossings spans
      (after_call guest_step.turn (trail_of guest_step.turn next_answer n s answers))
  pub partial : partial (trail_of guest_step.turn next_answer n s answers)
      ≡ partial (after_call guest_step.turn (trail_of guest_step.turn next_answer n s answers))

-- ---- stretches of code

-- an instruction counts the same wherever its code stands
abbrev pub IsSameAnywhere : (Instruction → ℕ) → Type 0
IsSameAnywhere weight = (by : ℕ) (i : Instruction) → weight (moved_instruction by i) ≡ weight i

-- A stretch where it stands counts what the lines count that it passes by itself, and visits their
-- offsets, and none of another method.
pub record StretchCounts (program : Program) (words m by n : ℕ) (at : CodeOffset)
    (lines : List LinkedLine) (w : Workspace) (others : List Frame) : Type 0 where
  pub counts : (weight : Instruction → ℕ) → IsSameAnywhere weight
      → sum_by (executed program weight)
      (moved (jvm_turn program words) n (frame_placed m (by + at) w others))
      ≡ weight_of weight (passes program words lines n at w)
  pub visits : visited (place_in m) (moved (jvm_turn program words) n (frame_placed m (by + at) w others))
      ≡ map (λ (l : LinkedLine). by + l.at) (passes program words lines n at w)
  pub elsewhere : (other : ℕ) → m ≢ other
      → visited (place_in other) (moved (jvm_turn program words) n (frame_placed m (by + at) w others)) ≡ []

-- A stretch of lines that go only to what stands behind them, which leads to a point.
pub record ForwardStretch (program : Program) (words n : ℕ) (at : CodeOffset)
    (lines : List LinkedLine) (w : Workspace) (p : Point) : Type 0 where
  -- where it stands, the offsets that it visits rise: each line is executed at most once
  pub rises : (m by : ℕ) (others : List Frame) → StandsAt program m by lines
      → Rises (by + at)
      (visited (place_in m) (moved (jvm_turn program words) n (frame_placed m (by + at) w others)))
      (by + p.at)
  -- it executes no more instructions than there are lines
  pub instructions : n ≤ length lines
  -- and counts no more than all lines do
  pub counts : (weight : Instruction → ℕ)
      → weight_of weight (passes program words lines n at w) ≤ weight_of weight lines

-- ---- calls

-- A call from a line, with the turns inside it, which may go through further calls.
pub record CallCounts {program : Program} {words m : ℕ} {line : LinkedLine} {w : Workspace}
    {others : List Frame} {n : ℕ} {result : Option Value} {caller back : Workspace}
    (c : CallsThrough program words m line w others n result caller back) : Type 0 where
  -- it comes behind the line, with its result
  pub comes : advanced (jvm_turn program words) (n + 2) (frame_placed m line.at w others)
      ≡ Some (frame_placed m line.next (caller_workspace result caller back) others)
  -- it counts its own line, what the turns inside it count, and the return
  pub counts : (weight : Instruction → ℕ)
      → sum_by (executed program weight)
      (moved (jvm_turn program words) (n + 2) (frame_placed m line.at w others))
      ≡ weight line.instruction + sum_by (executed program weight)
      (moved (jvm_turn program words) n
      (frame_placed c.callee 0 (body_workspace c.given caller) (waiting_frame m line caller ∷ others)))
      + weight c.last.instruction
  -- it visits its own line alone, where it calls another method and they do not come back to the
  -- caller
  pub visits : c.callee ≢ m
      → visited (place_in m)
      (moved (jvm_turn program words) n
      (frame_placed c.callee 0 (body_workspace c.given caller) (waiting_frame m line caller ∷ others)))
      ≡ []
      → visited (place_in m) (moved (jvm_turn program words) (n + 2) (frame_placed m line.at w others))
      ≡ line.at ∷ []

-- A call from a line of a method whose lines lead to its return.
pub record BodyCounts {program : Program} {words m : ℕ} {line : LinkedLine} {w : Workspace} {n : ℕ}
    {result : Option Value} {caller back : Workspace} (others : List Frame)
    (c : CallsAndReturns program words m line w n result caller back) : Type 0 where
  -- it counts its own line, what those lines count by themselves, and the return
  pub counts : (weight : Instruction → ℕ) → IsSameAnywhere weight
      → sum_by (executed program weight)
      (moved (jvm_turn program words) (n + 2) (frame_placed m line.at w others))
      ≡ weight line.instruction + weight_of weight
      (passes program words c.body n 0 (body_workspace c.given caller))
      + weight c.last.instruction
  -- it visits its own line alone, where it calls another method
  pub visits : c.callee ≢ m
      → visited (place_in m) (moved (jvm_turn program words) (n + 2) (frame_placed m line.at w others))
      ≡ line.at ∷ []

-- ---- loaded programs

-- over a kind of system state, a loaded program runs as its state does
abbrev pub LoadedRuns : {K : Type 0} → (K → Question → Option (Answer × K)) → Type 0
LoadedRuns {K} reply =
    (program : Program) (words n : ℕ) (s : JvmState) (system : K)
    → IsRunLoaded program words (run_of (jvm_turn program words) reply n s system)
    (run_of loaded_turn reply n (with_state program words s) system)

-- it counts the same, over every list of answers
abbrev pub LoadedCounts : Type 0
LoadedCounts =
    (program : Program) (words n : ℕ) (s : JvmState) (answers : List Answer)
    (weight : Instruction → ℕ)
    → sum_by (executed_loaded weight)
    (trail_of loaded_turn next_answer n (with_state program words s) answers)
    ≡ sum_by (executed program weight) (trail_of (jvm_turn program words) next_answer n s answers)
