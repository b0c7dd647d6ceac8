-- Frames at the offsets of instructions.
use Rattle.std.specs.Prelude.{◌≡◌, ℕ, Some}
use Rattle.jvm_definition.specs.declared.linked_method.LinkedMethod.{LinkedMethod}
use Rattle.jvm_definition.specs.Typing.{TypeFrame, Frames}
use Rattle.frame_maps.specs.Framed.{HasLine}

pub record ArePlaced (method : LinkedMethod) (listed frames : Frames) : Type 0 where
  pub are : frames ≡ listed
  pub lines : (at : ℕ) (f : TypeFrame) → frames at ≡ Some f → HasLine method at
