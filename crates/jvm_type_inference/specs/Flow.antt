-- Frames at the offsets of a method, and the offsets whose instructions are to be looked at again.
use Rattle.std.specs.Prelude.{◌≡◌, ℕ, suc, ◌+◌, ◌*◌, ◌==◌, ◌||◌, ◌<◌, ◌≤◌, Bool, true, false, List, [], ◌∷◌, length, slice_index_or, slice_get, Option, Some, None, option_and_then, option_map, IsSome, All}
use Rattle.jvm_definition.specs.declared.linked_line.LinkedLine.{LinkedLine}
use Rattle.jvm_definition.specs.declared.linked_method.LinkedMethod.{LinkedMethod}
use Rattle.jvm_definition.specs.Program.{Program, line_in}
use Rattle.jvm_definition.specs.Typing.{TypeFrame, Below, Frames, Receives, IsTypingTo, entry_frame, no_top, applied, type_effect}
use Rattle.jvm_type_inference.specs.declared.frame.Frame.{Frame}
use Rattle.jvm_type_inference.specs.declared.inferred.Inferred.{Inferred}
use Rattle.jvm_type_inference.specs.declared.inferred.Inferred.TheVariants.{Typed, Fails}
use Rattle.jvm_type_inference.specs.declared.successors.Successors.{Successors}
use Rattle.jvm_type_inference.specs.declared.successors.Successors.TheVariants.{Nowhere, To, ToEither, ToAny}
use Rattle.jvm_type_inference.specs.declared.admitted.Admitted.{Admitted}
use Rattle.jvm_type_inference.specs.declared.admitted.Admitted.TheVariants.{UpTo, FaultAt}
use Rattle.jvm_type_inference.specs.declared.walked.Walked.{Walked}
use Rattle.jvm_type_inference.specs.Blocks.{before_in, Runs, IsWalk, AreSpread}
use Rattle.jvm_type_inference.specs.Verdict.{AreBelow, AreLeast, FailsAt}
use Rattle.jvm_type_inference.specs.Frames.{type_frame, frame_at, IsFormed, IsSized, weight}
use Rattle.jvm_type_inference.specs.Actions.{Enters}

-- ---- the table from offsets to lines

abbrev pub line_by : List LinkedLine → List (Option ℕ) → ℕ → Option LinkedLine
line_by lines starts at = option_and_then (slice_get lines) (slice_index_or starts at None)

pub record IsTable (lines : List LinkedLine) (starts : List (Option ℕ)) : Type 0 where
  pub finds : (at : ℕ) → line_by lines starts at ≡ line_in lines at

-- ---- where an instruction may go

abbrev pub offsets_of : Successors → List ℕ
offsets_of Nowhere = []
offsets_of (To offset) = offset
offsets_of (ToEither offsets) = offsets
offsets_of (ToAny offsets) = offsets.items

-- ---- what a frame at each offset can be

abbrev pub has : List ℕ → ℕ → Bool
has [] x = false
has (w ∷ work) x = (w == x) || has work x

-- every frame is formed
pub record AreFormed (locals stack : ℕ) (frames : List (Option Frame)) : Type 0 where
  pub each : (at : ℕ) (f : Frame) → slice_index_or frames at None ≡ Some f → IsFormed locals stack f

abbrev pub heights : ℕ → ℕ → List (Option Frame) → ℕ
heights locals stack [] = 0
heights locals stack (o ∷ frames) = weight locals stack o + heights locals stack frames

-- what falls while frames come to rest
abbrev pub energy : ℕ → ℕ → List (Option Frame) → List ℕ → ℕ
energy locals stack frames work = 2 * heights locals stack frames + length work

-- frames have risen
pub record Rises (frames after : List (Option Frame)) : Type 0 where
  pub size : length after ≡ length frames
  pub above : (at : ℕ) (f : TypeFrame) → frame_at frames at ≡ Some f → (g : TypeFrame)
      × (frame_at after at ≡ Some g) × Below f g

-- the offsets at which work waits are admitted
pub record Waits (limit : ℕ) (work : List ℕ) : Type 0 where
  pub each : (x : ℕ) → has work x ≡ true → x < limit

-- Frames have risen, and work waits where an admitted instruction has a new frame.
pub record Moves (locals stack limit : ℕ) (frames : List (Option Frame)) (work : List ℕ)
    (after : List (Option Frame)) (later : List ℕ) : Type 0 where
  pub rises : Rises frames after
  pub same_work : (x : ℕ) → has later x ≡ false → has work x ≡ false
  pub same_frame : (x : ℕ) → x < limit → has later x ≡ false
      → slice_index_or after x None ≡ slice_index_or frames x None
  pub formed : AreFormed locals stack frames → AreFormed locals stack after
  pub waits : Waits limit work → Waits limit later
  pub falls : energy locals stack after later ≤ energy locals stack frames work

-- ---- a frame flows to the instruction at an offset, or to several

pub record Flows (method : LinkedMethod) (limit : ℕ) (f : TypeFrame) (to : ℕ)
    (frames : List (Option Frame)) (work : List ℕ) (after : List (Option Frame))
    (later : List ℕ) : Type 0 where
  pub moves : Moves method.locals method.stack limit frames work after later
  pub received : Receives method (frame_at after) f to

pub record FlowsToAll (method : LinkedMethod) (limit : ℕ) (f : TypeFrame) (targets : List ℕ)
    (frames : List (Option Frame)) (work : List ℕ) (after : List (Option Frame))
    (later : List ℕ) : Type 0 where
  pub moves : Moves method.locals method.stack limit frames work after later
  pub received : All (Receives method (frame_at after) f) targets

-- each operand has a type
pub record HaveOperands (others : Frames) : Type 0 where
  pub each : (at : ℕ) (f : TypeFrame) → others at ≡ Some f → no_top f.stack ≡ true

-- frames that are above those before, and receive what flows, are above those after; and so it goes well
pub record StaysBelow (method : LinkedMethod) (f : TypeFrame) (to : ℕ)
    (frames : List (Option Frame)) (good : Bool) (after : List (Option Frame)) : Type 0 where
  pub each : (others : Frames) → HaveOperands others → AreBelow (frame_at frames) others
      → Receives method others f to → (good ≡ true) × AreBelow (frame_at after) others

pub record AllStayBelow (method : LinkedMethod) (f : TypeFrame) (targets : List ℕ)
    (frames : List (Option Frame)) (good : Bool) (after : List (Option Frame)) : Type 0 where
  pub each : (others : Frames) → HaveOperands others → AreBelow (frame_at frames) others
      → All (Receives method others f) targets → (good ≡ true) × AreBelow (frame_at after) others

-- ---- a block is looked at

abbrev pub BlockHolds : Program → LinkedMethod → List (Option ℕ) → List (Option Frame)
    → List (Option Frame) → ℕ → Type 0
BlockHolds program method before frames after at =
    (line : LinkedLine) (f : TypeFrame) → line_in method.lines at ≡ Some line
    → before_in before at ≡ None → frame_at frames at ≡ Some f
    → Runs program method before (frame_at after) at f

-- its rule holds of the frame with which it was entered
pub record Visits (program : Program) (method : LinkedMethod) (before : List (Option ℕ))
    (limit at : ℕ) (frames : List (Option Frame)) (work : List ℕ) (after : List (Option Frame))
    (later : List ℕ) : Type 0 where
  pub moves : Moves method.locals method.stack limit frames work after later
  pub rule : BlockHolds program method before frames after at

-- typings up to an offset that are above the frames before are above those after; and where there is one, it goes well
pub record KeepsBelow (program : Program) (method : LinkedMethod) (limit : ℕ)
    (frames : List (Option Frame)) (good : Bool) (after : List (Option Frame)) : Type 0 where
  pub each : (others : Frames) (last : ℕ) → limit ≤ suc last → IsTypingTo program method others last
      → AreBelow (frame_at frames) others → (good ≡ true) × AreBelow (frame_at after) others

-- ---- the admitted blocks

-- the rule of each one holds, but where work waits
pub record Keeps (program : Program) (method : LinkedMethod) (before : List (Option ℕ)) (limit : ℕ)
    (frames : List (Option Frame)) (work : List ℕ) : Type 0 where
  pub formed : AreFormed method.locals method.stack frames
  pub waits : Waits limit work
  pub rules : (x : ℕ) → x < limit → has work x ≡ false
      → BlockHolds program method before frames frames x

-- the frames have come to rest
pub record Settles (program : Program) (method : LinkedMethod) (before : List (Option ℕ))
    (limit : ℕ) (frames after : List (Option Frame)) : Type 0 where
  pub rises : Rises frames after
  pub keeps : Keeps program method before limit after []

-- frames at rest that are below each typing up to an offset behind the admitted ones
pub record Rests (program : Program) (method : LinkedMethod) (before : List (Option ℕ)) (limit : ℕ)
    (frames : List (Option Frame)) : Type 0 where
  pub parameters : length method.parameters ≤ method.locals
  pub entry : Receives method (frame_at frames) (entry_frame method) 0
  pub keeps : Keeps program method before limit frames []
  pub least : (others : Frames) (last : ℕ) → limit ≤ suc last
      → IsTypingTo program method others last → AreBelow (frame_at frames) others

-- a walk through the block that begins at an offset, if one does and has a frame
abbrev pub IsWalkFrom : Program → LinkedMethod → List (Option ℕ) → Frames → ℕ → Option Walked
    → Type 0
IsWalkFrom program method before frames at None =
    (line : LinkedLine) (f : TypeFrame) → line_in method.lines at ≡ Some line
    → before_in before at ≡ None → frames at ≡ Some f → ⊥
IsWalkFrom program method before frames at (Some walked) =
    (f : TypeFrame) × (before_in before at ≡ None) × IsSome (line_in method.lines at)
    × (frames at ≡ Some f) × IsWalk program method before at f walked

-- what comes of the admission of the block at an offset
pub record AdmitsTo (program : Program) (method : LinkedMethod) (before : List (Option ℕ))
    (at next : ℕ) (frames after : List (Option Frame)) (later : List ℕ) : Type 0 where
  pub order : at < next
  pub rests : Rests program method before next after
  pub size : length after ≡ length frames
  pub done : later ≡ []

abbrev pub IsAdmission : Program → LinkedMethod → List (Option ℕ) → ℕ → List (Option Frame)
    → List (Option Frame) → List ℕ → Admitted → Type 0
IsAdmission program method before at frames after later (UpTo next) =
    AdmitsTo program method before at next frames after later
IsAdmission program method before at frames after later (FaultAt fault) =
    FailsAt program method fault

abbrev pub IsFaultWithin : ℕ → Admitted → Type 0
IsFaultWithin count (UpTo next) = next ≤ count
IsFaultWithin count (FaultAt fault) = fault < count

-- frames that are spread from these are the least typing; or there is none, for the rules up to an offset
abbrev pub AreBlockVerdict : Program → LinkedMethod → List (Option ℕ) → ℕ → List (Option Frame)
    → Option ℕ → Type 0
AreBlockVerdict program method before cut frames None =
    (spread : Frames) → AreSpread program method before cut (frame_at frames) spread
    → AreLeast program method spread
AreBlockVerdict program method before cut frames (Some at) = FailsAt program method at

-- the frames at the first instructions of a method's blocks
pub record AreAnalyzed (program : Program) (method : LinkedMethod) (before : List (Option ℕ))
    (count : ℕ) (frames : List (Option Frame)) : Type 0 where
  pub least : (spread : Frames)
      → AreSpread program method before count (frame_at frames) spread
      → AreLeast program method spread
  pub formed : AreFormed method.locals method.stack frames
  pub size : length frames ≡ count

abbrev pub IsAnalysis : Program → LinkedMethod → List (Option ℕ) → ℕ → Inferred → Type 0
IsAnalysis program method before count (Typed frames) =
    AreAnalyzed program method before count frames
IsAnalysis program method before count (Fails at) = FailsAt program method at

-- the frame behind the instruction at an offset, if there is one that is entered with a frame
pub record IsBehind (program : Program) (method : LinkedMethod) (at : ℕ) (frame : Option TypeFrame)
    (behind : Option Frame) : Type 0 where
  pub goes : (line : LinkedLine) (f b : TypeFrame) → line_in method.lines at ≡ Some line
      → frame ≡ Some f → Enters program method line.instruction f b
      → option_map type_frame behind ≡ Some b
  pub back : (b : TypeFrame) → option_map type_frame behind ≡ Some b → (line : LinkedLine)
      × (f : TypeFrame) × (line_in method.lines at ≡ Some line) × (frame ≡ Some f)
      × (applied (type_effect program line.instruction) f ≡ Some b)

-- the frames before an offset are spread
pub record SpreadTo (program : Program) (method : LinkedMethod) (before : List (Option ℕ))
    (at : ℕ) (frames spread : List (Option Frame)) : Type 0 where
  pub size : length spread ≡ length frames
  pub later : (n : ℕ) → at ≤ n → slice_index_or spread n None ≡ slice_index_or frames n None
  pub leaders : (n : ℕ) → before_in before n ≡ None
      → slice_index_or spread n None ≡ slice_index_or frames n None
  pub go_on : (n x : ℕ) (line : LinkedLine) (f b : TypeFrame) → n < at
      → before_in before n ≡ Some x → line_in method.lines x ≡ Some line
      → frame_at spread x ≡ Some f → Enters program method line.instruction f b
      → frame_at spread n ≡ Some b
  pub back : (n x : ℕ) (b : TypeFrame) → n < at → before_in before n ≡ Some x
      → frame_at spread n ≡ Some b → (line : LinkedLine) × (f : TypeFrame)
      × (line_in method.lines x ≡ Some line) × (frame_at spread x ≡ Some f)
      × (applied (type_effect program line.instruction) f ≡ Some b)
  pub sized : (n : ℕ) (f : Frame) → slice_index_or spread n None ≡ Some f
      → IsSized method.locals method.stack f
