-- Whether a method is typed, and where it is not: the least offset up to which it has no typing.
use Rattle.std.specs.Prelude.{◌≡◌, ℕ, ◌<◌, Option, Some, None}
use Rattle.jvm_definition.specs.declared.linked_method.LinkedMethod.{LinkedMethod}
use Rattle.jvm_definition.specs.Program.{Program}
use Rattle.jvm_definition.specs.Typing.{TypeFrame, Below, Frames, IsTypingTo, IsTyping}

-- no frames keep the rules of the method's start and of its instructions up to an offset, but some do so up to each earlier one
pub record FailsAt (program : Program) (method : LinkedMethod) (at : ℕ) : Type 0 where
  pub fails : (frames : Frames) → IsTypingTo program method frames at → ⊥
  pub before : (earlier : ℕ) → earlier < at → (frames : Frames)
      × IsTypingTo program method frames earlier

-- ---- the least typing

-- what has a frame in one typing has one above it in the other
abbrev pub AreBelow : Frames → Frames → Type 0
AreBelow frames others =
    (at : ℕ) (f : TypeFrame) → frames at ≡ Some f → (g : TypeFrame) × (others at ≡ Some g)
    × Below f g

-- a typing below each other one
pub record LeastTyping (program : Program) (method : LinkedMethod) : Type 0 where
  pub frames : Frames
  pub typing : IsTyping program method frames
  pub least : (others : Frames) → IsTyping program method others → AreBelow frames others

-- these frames are a typing below each other one
pub record AreLeast (program : Program) (method : LinkedMethod) (frames : Frames) : Type 0 where
  pub typing : IsTyping program method frames
  pub least : (others : Frames) → IsTyping program method others → AreBelow frames others

-- frames at rest are its least typing, or it has none, for the rules up to an offset
abbrev pub AreVerdict : Program → LinkedMethod → Frames → Option ℕ → Type 0
AreVerdict program method frames None = AreLeast program method frames
AreVerdict program method frames (Some at) = FailsAt program method at

-- ---- whether a method has a least typing

-- a method has a least typing, or none, for the rules up to an offset
abbrev pub IsVerdict : Program → LinkedMethod → Option ℕ → Type 0
IsVerdict program method None = LeastTyping program method
IsVerdict program method (Some at) = FailsAt program method at

-- the method with a number
abbrev pub IsVerdictOf : Program → ℕ → Option ℕ → Type 0
IsVerdictOf program number verdict =
    (method : LinkedMethod) → program.method number ≡ Some method
    → IsVerdict program method verdict

-- each method of a program has a least typing
abbrev pub AllLeastTyped : Program → Type 0
AllLeastTyped program =
    (m : ℕ) (method : LinkedMethod) → program.method m ≡ Some method → LeastTyping program method
