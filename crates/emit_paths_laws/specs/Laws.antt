-- What holds of paths of the class machine.
use Rattle.std.specs.Prelude.{◌≡◌, ◌≢◌, ℕ, suc, ◌+◌, ◌<◌, ◌≤◌, Bool, List, [], ◌∷◌, length, slice_get, take, Option, Some}
use Rattle.run_definition.specs.Turn.{moves}
use Rattle.jvm_definition.specs.declared.linked_line.LinkedLine.{LinkedLine}
use Rattle.jvm_definition.specs.declared.value.Value.{Value}
use Rattle.jvm_definition.specs.declared.instruction.Instruction.{Instruction}
use Rattle.jvm_definition.specs.declared.instruction.Instruction.TheVariants.{Call}
use Rattle.jvm_definition.specs.Program.{Program, linked_line_at}
use Rattle.jvm_definition.specs.Effect.{Workspace, InstructionEffect, enters, gives, instruction_effect}
use Rattle.jvm_definition.specs.Step.{JvmState, Frame, frame_placed, jvm_turn}
use Rattle.jvm_definition_laws.specs.Stretch.{body_workspace, caller_workspace}
use Rattle.emit_steps.specs.declared.step.Step.{Step}
use Rattle.emit_steps.specs.declared.step.Step.TheVariants.{Does}
use Rattle.emit_steps.specs.Widths.{bytes_before}
use Rattle.emit_steps.specs.Offsets.{CodeOffset}
use Rattle.emit_steps.specs.Outcomes.{outcome, outcome_from, stopped}
use Rattle.emit_steps.specs.Placing.{LiesAt}
use Rattle.emit_steps.specs.Leading.{StopsAt}
use Rattle.emit_paths_laws.specs.Classes.{reads, chars, switches, entries, gets, puts}
use Rattle.emit_paths_laws.specs.Paths.{LooksAtNoTarget, step_weight, weigh, Path, PathWithin, PathElsewhere, waiting_behind}

-- ---- code

-- code that lies in a method is a path to where its list of steps says, from any of its steps on
abbrev pub CodeIsPath : Type 0
CodeIsPath =
    (program : Program) (words m : ℕ) (at : CodeOffset) (k : ℕ) (code : List Step) (w : Workspace)
    (others : List Frame)
    → LiesAt program m at code
    → PathWithin program words m at k code others (frame_placed m (at + bytes_before code k) w others)
    (outcome_from program words code k w)

-- so it is, seen from another method
abbrev pub CodeIsPathElsewhere : Type 0
CodeIsPathElsewhere =
    (program : Program) (words own m : ℕ) (low at : CodeOffset) (k : ℕ) (code : List Step)
    (w : Workspace) (others : List Frame)
    → own ≢ m
    → LiesAt program own at code
    → PathElsewhere program words own m low at k code others
    (frame_placed own (at + bytes_before code k) w others) (outcome_from program words code k w)

-- code that stops at a step that is no branch stops with the effect of its instruction
abbrev pub StopsByEffect : Type 0
StopsByEffect =
    (program : Program) (words k n i : ℕ) (code : List Step) (instruction : Instruction)
    (w v : Workspace) (e : InstructionEffect)
    → outcome_from program words code k w ≡ stopped n i v e
    → slice_get code i ≡ Some (Does instruction)
    → instruction_effect program words instruction v ≡ e

-- ---- paths

pub record PathsJoin (program : Program) (words m : ℕ) : Type 0 where
  -- a path behind a path is a path
  pub joined : (low middle high : CodeOffset) (n k : ℕ) (total more : (Instruction → ℕ) → ℕ)
      (x y z : JvmState)
      → Path program words m low middle n total x y
      → Path program words m middle high k more y z
      → Path program words m low high (n + k) (λ weight. total weight + more weight) x z
  -- no turn at all is one
  pub no_turns : (low high : CodeOffset) (x : JvmState) → low ≤ high
      → Path program words m low high 0 (λ weight. 0) x x
  -- a path may be given more weight and more room than it takes
  pub wider : (low high lower higher : CodeOffset) (n : ℕ) (total more : (Instruction → ℕ) → ℕ)
      (x y : JvmState)
      → lower ≤ low
      → high ≤ higher
      → ((weight : Instruction → ℕ) → LooksAtNoTarget weight → total weight ≤ more weight)
      → Path program words m low high n total x y
      → Path program words m lower higher n more x y
  -- one that has no room visits nothing, so it lies anywhere
  pub unseen : (at low high : CodeOffset) (n : ℕ) (total : (Instruction → ℕ) → ℕ) (x y : JvmState)
      → low ≤ high
      → Path program words m at at n total x y
      → Path program words m low high n total x y

-- ---- one turn

-- A turn from a line of a method only moves.
pub record MovesAtLine (program : Program) (words own : ℕ) (at : CodeOffset) (w : Workspace)
    (others : List Frame) (line : LinkedLine) (y : JvmState) : Type 0 where
  pub line_is : linked_line_at program own at ≡ Some line
  pub moves_to : jvm_turn program words (frame_placed own at w others) ≡ moves y

-- It is a path, which counts its instruction.
pub record OneTurnIsPath (program : Program) (words m : ℕ) : Type 0 where
  -- it visits its offset in the method that runs
  pub within : (at : CodeOffset) (w : Workspace) (others : List Frame) (line : LinkedLine)
      (y : JvmState)
      → MovesAtLine program words m at w others line y
      → Path program words m at (at + 1) 1 (λ weight. weight line.instruction)
      (frame_placed m at w others) y
  -- and nothing in another one
  pub elsewhere : (own : ℕ) (low at : CodeOffset) (w : Workspace) (others : List Frame)
      (line : LinkedLine) (y : JvmState)
      → own ≢ m
      → MovesAtLine program words own at w others line y
      → Path program words m low low 1 (λ weight. weight line.instruction)
      (frame_placed own at w others) y

-- a turn that only moves, from a step of code that lies in a method, is a path that counts the step
abbrev pub TurnsAtSteps : Type 0
TurnsAtSteps =
    (program : Program) (words m : ℕ) (at : CodeOffset) (i : ℕ) (code : List Step) (s : Step)
    (w : Workspace) (others : List Frame) (y : JvmState)
    → LiesAt program m at code
    → slice_get code i ≡ Some s
    → jvm_turn program words (frame_placed m (at + bytes_before code i) w others) ≡ moves y
    → Path program words m (at + bytes_before code i) (at + bytes_before code (suc i)) 1
    (λ weight. step_weight weight s) (frame_placed m (at + bytes_before code i) w others) y

-- so it is, seen from another method
abbrev pub TurnsAtStepsElsewhere : Type 0
TurnsAtStepsElsewhere =
    (program : Program) (words own m : ℕ) (low at : CodeOffset) (i : ℕ) (code : List Step)
    (s : Step) (w : Workspace) (others : List Frame) (y : JvmState)
    → own ≢ m
    → LiesAt program own at code
    → slice_get code i ≡ Some s
    → jvm_turn program words (frame_placed own (at + bytes_before code i) w others) ≡ moves y
    → Path program words m low low 1 (λ weight. step_weight weight s)
    (frame_placed own (at + bytes_before code i) w others) y

-- ---- calls

-- A call makes a frame, and a return takes it away: both only move.
pub record CallsAreTurns (program : Program) (words own : ℕ) (at : CodeOffset) (h callee : ℕ)
    (caller : Workspace) (others : List Frame) : Type 0 where
  pub enters : (w : Workspace) (given : List Value)
      → LiesAt program own at (Does (Call h) ∷ [])
      → instruction_effect program words (Call h) w ≡ enters callee given caller
      → length others < 63
      → jvm_turn program words (frame_placed own at w others)
      ≡ moves (frame_placed callee 0 (body_workspace given caller)
      (waiting_behind own at h caller ∷ others))
  pub returns : (start : CodeOffset) (j : ℕ) (code : List Step) (v back : Workspace)
      (result : Option Value)
      → StopsAt program words callee start code (waiting_behind own at h caller ∷ others) j v
      (gives result back)
      → jvm_turn program words (frame_placed callee (start + bytes_before code j) v
      (waiting_behind own at h caller ∷ others))
      ≡ moves (frame_placed own (at + 3) (caller_workspace result caller back) others)

-- A call lies at an offset of a method and enters another one, with these arguments, where there is
-- room for its frame. The paths over it are seen from method m.
pub record EntersCode (program : Program) (words own m : ℕ) (at : CodeOffset) (h callee : ℕ)
    (w : Workspace) (given : List Value) (caller : Workspace) (body : List Step)
    (others : List Frame) : Type 0 where
  pub lies : LiesAt program own at (Does (Call h) ∷ [])
  pub calls : instruction_effect program words (Call h) w ≡ enters callee given caller
  -- the method that is called is another than m
  pub apart : callee ≢ m
  -- this is its code
  pub body_lies : LiesAt program callee 0 body
  pub room : length others < 63

-- A call whose method comes to its return is a path behind the call: it counts the call, and no
-- more than all of the method's code. In the caller's method it visits the call alone.
abbrev pub CallsArePaths : Type 0
CallsArePaths =
    (program : Program) (words m : ℕ) (at : CodeOffset) (h callee n j : ℕ) (body : List Step)
    (w caller v back : Workspace) (given : List Value) (result : Option Value)
    (others : List Frame)
    → EntersCode program words m m at h callee w given caller body others
    → outcome program words body (body_workspace given caller) ≡ stopped n j v (gives result back)
    → Path program words m at (at + 3) (n + 2) (λ weight. weight (Call h) + weigh weight body)
    (frame_placed m at w others) (frame_placed m (at + 3) (caller_workspace result caller back) others)

-- in a third one it visits nothing
abbrev pub CallsArePathsElsewhere : Type 0
CallsArePathsElsewhere =
    (program : Program) (words own m : ℕ) (low at : CodeOffset) (h callee n j : ℕ)
    (body : List Step) (w caller v back : Workspace) (given : List Value) (result : Option Value)
    (others : List Frame)
    → own ≢ m
    → EntersCode program words own m at h callee w given caller body others
    → outcome program words body (body_workspace given caller) ≡ stopped n j v (gives result back)
    → Path program words m low low (n + 2) (λ weight. weight (Call h) + weigh weight body)
    (frame_placed own at w others) (frame_placed own (at + 3) (caller_workspace result caller back) others)

-- ---- calls whose methods stop

-- A path, seen from method m, over a call to the step at which its method's code stops, with an
-- effect: it counts the call, and what stands before the step.
abbrev pub StopsInCall : Program → (words own m : ℕ) (low high at : CodeOffset) (h callee n j : ℕ)
    → List Step → (w caller v : Workspace) → List Frame → InstructionEffect → Type 0
StopsInCall program words own m low high at h callee n j body w caller v others e =
    Path program words m low high (n + 1)
    (λ weight. weight (Call h) + weigh weight (take j body)) (frame_placed own at w others)
    (frame_placed callee (bytes_before body j) v (waiting_behind own at h caller ∷ others))
    × StopsAt program words callee 0 body (waiting_behind own at h caller ∷ others) j v e

-- a call whose method's code stops, with any effect, is a path to where it stops, which visits the
-- call alone in the caller's method
abbrev pub CallsThatStop : Type 0
CallsThatStop =
    (program : Program) (words m : ℕ) (at : CodeOffset) (h callee n j : ℕ) (body : List Step)
    (w caller v : Workspace) (given : List Value) (others : List Frame) (e : InstructionEffect)
    → EntersCode program words m m at h callee w given caller body others
    → outcome program words body (body_workspace given caller) ≡ stopped n j v e
    → StopsInCall program words m m at (at + 1) at h callee n j body w caller v others e

-- so it is, seen from a third method
abbrev pub CallsThatStopElsewhere : Type 0
CallsThatStopElsewhere =
    (program : Program) (words own m : ℕ) (low at : CodeOffset) (h callee n j : ℕ)
    (body : List Step) (w caller v : Workspace) (given : List Value) (others : List Frame)
    (e : InstructionEffect)
    → own ≢ m
    → EntersCode program words own m at h callee w given caller body others
    → outcome program words body (body_workspace given caller) ≡ stopped n j v e
    → StopsInCall program words own m low low at h callee n j body w caller v others e

-- the frames of two callers, of which the second waits behind the j-th step of the code that the
-- first one called
abbrev pub both_waiting : (own : ℕ) (at : CodeOffset) (h callee j g : ℕ) → List Step
    → (caller between : Workspace) → List Frame → List Frame
both_waiting own at h callee j g body caller between others =
    waiting_behind callee (bytes_before body j) g between ∷ waiting_behind own at h caller ∷ others

-- a call whose method's code comes to a call, whose method's code stops, is a path to where that
-- stops
abbrev pub CallsInCallsThatStop : Type 0
CallsInCallsThatStop =
    (program : Program) (words m : ℕ) (at : CodeOffset) (h callee n j g deeper k i : ℕ)
    (body inner : List Step) (w caller v between u : Workspace) (given passed : List Value)
    (others : List Frame) (e : InstructionEffect)
    → EntersCode program words m m at h callee w given caller body others
    → outcome program words body (body_workspace given caller)
    ≡ stopped n j v (enters deeper passed between)
    → slice_get body j ≡ Some (Does (Call g))
    → deeper ≢ m
    → LiesAt program deeper 0 inner
    → outcome program words inner (body_workspace passed between) ≡ stopped k i u e
    → length others < 62
    → Path program words m at (at + 1) (n + 1 + (k + 1))
    (λ weight. weight (Call h) + weigh weight (take j body)
    + (weight (Call g) + weigh weight (take i inner))) (frame_placed m at w others)
    (frame_placed deeper (bytes_before inner i) u
    (both_waiting m at h callee j g body caller between others))
    × StopsAt program words deeper 0 inner
    (both_waiting m at h callee j g body caller between others) i u e

-- ---- weights

-- What is counted of a run of the classes looks at no target.
pub record CountsLookAtNoTarget : Type 0 where
  pub of_reads : LooksAtNoTarget reads
  pub of_chars : LooksAtNoTarget chars
  pub of_switches : LooksAtNoTarget switches
  pub of_entries : (is_span : ℕ → Bool) → LooksAtNoTarget (entries is_span)
  pub of_gets : (f : ℕ) → LooksAtNoTarget (gets f)
  pub of_puts : (f : ℕ) → LooksAtNoTarget (puts f)
