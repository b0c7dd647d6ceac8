-- What is inferred of a method: its least typing, or the least offset up to which it has none.
use Rattle.std.specs.Prelude.{◌≡◌, ℕ, ◌≤◌, ◌^◌, List, length, Option, Some}
use Rattle.jvm_definition.specs.declared.linked_method.LinkedMethod.{LinkedMethod}
use Rattle.jvm_definition.specs.Program.{Program}
use Rattle.jvm_type_inference.specs.declared.frame.Frame.{Frame}
use Rattle.jvm_type_inference.specs.declared.inferred.Inferred.{Inferred}
use Rattle.jvm_type_inference.specs.declared.inferred.Inferred.TheVariants.{Typed, Fails}
use Rattle.jvm_type_inference.specs.Flow.{AreFormed}
use Rattle.jvm_type_inference.specs.Frames.{frame_at}
use Rattle.jvm_type_inference.specs.Verdict.{AreLeast, FailsAt}

-- frames are a method's least typing
pub record AreInferred (program : Program) (method : LinkedMethod) (frames : List (Option Frame))
    : Type 0 where
  pub least : AreLeast program method (frame_at frames)
  -- each has at most as many local variables and operands as the method
  pub formed : AreFormed method.locals method.stack frames
  -- an offset is 32 bits wide
  pub few : length frames ≤ 2 ^ 32

abbrev pub IsInferred : Program → LinkedMethod → Inferred → Type 0
IsInferred program method (Typed frames) = AreInferred program method frames
IsInferred program method (Fails at) = FailsAt program method at

-- of the method with a number
abbrev pub IsInferredOf : Program → ℕ → Inferred → Type 0
IsInferredOf program number inferred =
    (method : LinkedMethod) → program.method number ≡ Some method
    → IsInferred program method inferred
