-- Basic blocks: straight code that is entered at its first instruction alone. One frame is kept at the first, and flows through the block.
use Rattle.std.specs.Prelude.{◌≡◌, ℕ, suc, ◌<◌, ◌≤◌, true, List, [], ◌∷◌, slice_index_or, Option, Some, None, IsSome, All}
use Rattle.jvm_definition.specs.declared.linked_line.LinkedLine.{LinkedLine}
use Rattle.jvm_definition.specs.declared.linked_method.LinkedMethod.{LinkedMethod}
use Rattle.jvm_definition.specs.Program.{Program, line_in, successors}
use Rattle.jvm_definition.specs.Typing.{TypeFrame, Below, Frames, Follows, Receives, IsTypingTo, type_effect, applied, no_top}
use Rattle.jvm_type_inference.specs.declared.frame.Frame.{Frame}
use Rattle.jvm_type_inference.specs.declared.walked.Walked.{Walked}
use Rattle.jvm_type_inference.specs.declared.walked.Walked.TheVariants.{Ends, Fails}
use Rattle.jvm_type_inference.specs.Actions.{Enters}
use Rattle.jvm_type_inference.specs.Frames.{type_frame, IsSized}
use Rattle.jvm_type_inference.specs.Verdict.{AreLeast, FailsAt}

-- the offset of the instruction inside the same block that is before the one at an offset, if there is one
abbrev pub before_in : List (Option ℕ) → ℕ → Option ℕ
before_in before n = slice_index_or before n None

-- an instruction goes on to the next one alone
pub record IsInside (method : LinkedMethod) (x n : ℕ) : Type 0 where
  pub line : LinkedLine
  pub is : line_in method.lines x ≡ Some line
  pub next : line.next ≡ n
  pub goes : successors line ≡ n ∷ []
  pub order : x < n
  pub there : LinkedLine
  pub there_is : line_in method.lines n ≡ Some there
  pub alone : (y : ℕ) → x < y → y < n → line_in method.lines y ≡ None

-- and no other instruction goes there
pub record AreBlocks (method : LinkedMethod) (before : List (Option ℕ)) : Type 0 where
  pub inside : (n x : ℕ) → before_in before n ≡ Some x → IsInside method x n
  pub others : (y : ℕ) (line : LinkedLine) (x : ℕ) → line_in method.lines y ≡ Some line
      → All (λ n. before_in before n ≡ Some x → x ≡ y) (successors line)

-- straight code leads from a frame at an offset to the frame behind the last instruction of its block
pub data Reaches (program : Program) (method : LinkedMethod) (before : List (Option ℕ))
    : ℕ → TypeFrame → ℕ → TypeFrame → Type 0 where
  stops : {at : ℕ} {f e : TypeFrame} (line : LinkedLine) → line_in method.lines at ≡ Some line
      → Enters program method line.instruction f e
      → ((n : ℕ) → before_in before n ≡ Some at → ⊥)
      → Reaches program method before at f at e
  passes : {at n last : ℕ} {f b e : TypeFrame} (line : LinkedLine)
      → line_in method.lines at ≡ Some line → before_in before n ≡ Some at
      → Enters program method line.instruction f b → no_top b.stack ≡ true
      → Reaches program method before n b last e → Reaches program method before at f last e

-- a block's rule: it leads to a frame that each of those receives to which its last instruction goes
pub record Runs (program : Program) (method : LinkedMethod) (before : List (Option ℕ))
    (frames : Frames) (at : ℕ) (f : TypeFrame) : Type 0 where
  pub last : ℕ
  pub end : TypeFrame
  pub reaches : Reaches program method before at f last end
  pub line : LinkedLine
  pub is : line_in method.lines last ≡ Some line
  pub goes_on : All (Receives method frames end) (successors line)

-- ---- a block is walked

-- what lies below an offset is left by no block
abbrev pub Closed : List (Option ℕ) → ℕ → Type 0
Closed before limit = (n x : ℕ) → before_in before n ≡ Some x → x < limit → n < limit

-- frames go on inside blocks, as far as an offset
pub record GoOn (program : Program) (method : LinkedMethod) (before : List (Option ℕ)) (cut : ℕ)
    (frames : Frames) : Type 0 where
  pub each : (n x : ℕ) (line : LinkedLine) (f b : TypeFrame) → n ≤ cut
      → before_in before n ≡ Some x → line_in method.lines x ≡ Some line → frames x ≡ Some f
      → Enters program method line.instruction f b → frames n ≡ Some b

-- in such frames the instructions of a block before one of them follow their rules
pub record Covers (program : Program) (method : LinkedMethod) (before : List (Option ℕ))
    (first : ℕ) (f : TypeFrame) (at : ℕ) : Type 0 where
  pub order : first ≤ at
  pub alone : (y : ℕ) (line : LinkedLine) → first < y → y ≤ at
      → line_in method.lines y ≡ Some line → before_in before y ≡ None → ⊥
  pub closed : (limit : ℕ) → Closed before limit → first < limit → at < limit
  pub held : (frames : Frames) → GoOn program method before at frames → frames first ≡ Some f
      → (y : ℕ) (line : LinkedLine) (g : TypeFrame) → first ≤ y → y < at
      → line_in method.lines y ≡ Some line → frames y ≡ Some g
      → Follows program method frames line g
  pub typed : (frames : Frames) → GoOn program method before at frames → frames first ≡ Some f
      → (y : ℕ) (line : LinkedLine) (g : TypeFrame) → first ≤ y → y ≤ at
      → line_in method.lines y ≡ Some line → frames y ≡ Some g → no_top g.stack ≡ true

-- typings in which the block is entered with a frame above another: what they say of the instruction at an offset
abbrev pub FromAbove : Program → LinkedMethod → ℕ → TypeFrame → ℕ → (Frames → Type 0) → Type 0
FromAbove program method first f at holds = (others : Frames) (last : ℕ) → at ≤ last
    → IsTypingTo program method others last → (g : TypeFrame) → others first ≡ Some g → Below f g
    → holds others

pub record WalkFails (program : Program) (method : LinkedMethod) (before : List (Option ℕ))
    (first : ℕ) (f : TypeFrame) (at : ℕ) : Type 0 where
  pub covers : Covers program method before first f at
  pub fails : FromAbove program method first f at (λ _. ⊥)

pub record WalkEnds (program : Program) (method : LinkedMethod) (before : List (Option ℕ))
    (first : ℕ) (f : TypeFrame) (at : ℕ) (end : TypeFrame) : Type 0 where
  pub covers : Covers program method before first f at
  pub reaches : Reaches program method before first f at end
  pub under : (line : LinkedLine) → line_in method.lines at ≡ Some line
      → FromAbove program method first f at (λ others. All (Receives method others end)
      (successors line))
  pub there : IsSome (line_in method.lines at)
  pub ends : (n : ℕ) → before_in before n ≡ Some at → ⊥

abbrev pub IsWalk : Program → LinkedMethod → List (Option ℕ) → ℕ → TypeFrame → Walked → Type 0
IsWalk program method before first f (Ends at end) =
    WalkEnds program method before first f at (type_frame end)
IsWalk program method before first f (Fails at) = WalkFails program method before first f at

abbrev pub offset_of : Walked → ℕ
offset_of (Ends at end) = at
offset_of (Fails at) = at

abbrev pub IsEndSized : ℕ → ℕ → Walked → Type 0
IsEndSized locals stack (Ends at end) = IsSized locals stack end
IsEndSized locals stack (Fails at) = Unit {0}

-- ---- the frames at all offsets, from those at the first ones of the blocks

pub record AreSpread (program : Program) (method : LinkedMethod) (before : List (Option ℕ))
    (cut : ℕ) (frames spread : Frames) : Type 0 where
  pub leaders : (n : ℕ) → before_in before n ≡ None → spread n ≡ frames n
  pub go_on : GoOn program method before cut spread
  pub back : (n x : ℕ) (b : TypeFrame) → before_in before n ≡ Some x → spread n ≡ Some b
      → (n ≤ cut) × (line : LinkedLine) × (f : TypeFrame) × (line_in method.lines x ≡ Some line)
      × (spread x ≡ Some f) × (applied (type_effect program line.instruction) f ≡ Some b)
