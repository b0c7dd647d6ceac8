-- The least typing of a method of linked classes, as the frames at the offsets that are reached.
use Rattle.std.specs.Prelude.{◌≡◌, ℕ, suc, ◌+◌, ◌==◌, ◌<◌, ◌≤◌, if◌then◌else◌, List, [], ◌∷◌, length, slice_get, Option, Some, None, IsSome, ◌↔◌}
use Rattle.class_definition.specs.declared.class.Class.{Class}
use Rattle.jvm_definition.specs.declared.linked_method.LinkedMethod.{LinkedMethod}
use Rattle.jvm_definition.specs.Program.{Program}
use Rattle.jvm_definition.specs.Typing.{Frames}
use Rattle.class_definition.specs.Linking.{program_of}
use Rattle.jvm_type_inference.specs.declared.frame.Frame.{Frame}
use Rattle.jvm_type_inference.specs.Flow.{AreFormed}
use Rattle.jvm_type_inference.specs.Frames.{type_frame, frame_at, IsFormed}
use Rattle.jvm_type_inference.specs.Reached.{Reached}
use Rattle.jvm_type_inference.specs.Verdict.{AreLeast, FailsAt}
use Rattle.type_verifier.specs.declared.method_typing.MethodTyping.{MethodTyping}
use Rattle.type_verifier.specs.declared.method_typing.MethodTyping.TheVariants.{Listed, Fails}
use Rattle.type_verifier.specs.Refusal.{methods_before}

-- a class has a method, both numbered from 0
pub record HasMethod (classes : List Class) (class method : ℕ) : Type 0 where
  pub of : Class
  pub of_is : slice_get classes class ≡ Some of
  pub within : method < length of.methods

-- the frames that are listed with their offsets
abbrev pub listed_frames : List (ℕ × Frame) → Frames
listed_frames [] at = None
listed_frames (l ∷ listed) at = if l.0 == at then Some (type_frame l.1)
    else listed_frames listed at

-- the offsets rise, from one on
abbrev pub RisesFrom : ℕ → List (ℕ × Frame) → Type 0
RisesFrom start [] = Unit {0}
RisesFrom start (l ∷ listed) = (start ≤ l.0) × RisesFrom (suc l.0) listed

-- each frame has at most so many local variables and operands
abbrev pub AllFormed : ℕ → ℕ → List (ℕ × Frame) → Type 0
AllFormed locals stack [] = Unit {0}
AllFormed locals stack (l ∷ listed) = IsFormed locals stack l.1 × AllFormed locals stack listed

-- frames are listed at the offsets at which they stand
pub record AreListed (frames : List (Option Frame)) (listed : List (ℕ × Frame)) : Type 0 where
  pub are : listed_frames listed ≡ frame_at frames
  pub rises : RisesFrom 0 listed
  pub formed : (locals stack : ℕ) → AreFormed locals stack frames → AllFormed locals stack listed

-- Frames that are listed are a method's least typing, at the offsets that are reached.
pub record IsListed (program : Program) (method : LinkedMethod) (listed : List (ℕ × Frame)) : Type 0
  where
    pub least : AreLeast program method (listed_frames listed)
    -- exactly these offsets are listed
    pub reached : (at : ℕ) → IsSome (listed_frames listed at) ↔ Reached method at
    pub rises : RisesFrom 0 listed
    pub formed : AllFormed method.locals method.stack listed

-- they are those of a class's method, both numbered from 0
abbrev pub IsListedOf : List Class → ℕ → ℕ → List (ℕ × Frame) → Type 0
IsListedOf classes class method listed =
    (m : LinkedMethod)
    → (program_of classes).method (methods_before classes class + method) ≡ Some m
    → IsListed (program_of classes) m listed

-- a class's method has no typing up to an offset
abbrev pub FailsOf : List Class → ℕ → ℕ → ℕ → Type 0
FailsOf classes class method at =
    (m : LinkedMethod)
    → (program_of classes).method (methods_before classes class + method) ≡ Some m
    → FailsAt (program_of classes) m at

-- what is inferred of it
abbrev pub IsTypingOf : List Class → ℕ → ℕ → MethodTyping → Type 0
IsTypingOf classes class method (Listed listed) = IsListedOf classes class method listed.items
IsTypingOf classes class method (Fails at) = FailsOf classes class method at
