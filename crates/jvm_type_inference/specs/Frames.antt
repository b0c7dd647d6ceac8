-- Frames as they are kept, the frames that they stand for, and how two of them meet.
use Rattle.std.specs.Prelude.{◌≡◌, ℕ, suc, ◌+◌, ◌*◌, ◌<◌, ◌≤◌, true, List, [], length, slice_index_or, Option, Some, None, option_map}
use Rattle.jvm_definition.specs.declared.kind.Kind.TheVariants.{Top}
use Rattle.jvm_definition.specs.declared.linked_method.LinkedMethod.{LinkedMethod}
use Rattle.jvm_definition.specs.Typing.{TypeFrame, Below, no_top}
use Rattle.jvm_type_inference.specs.declared.frame.Frame.{Frame}
use Rattle.jvm_type_inference.specs.declared.meeting.Meeting.{Meeting}
use Rattle.jvm_type_inference.specs.declared.meeting.Meeting.TheVariants.{Unchanged, Changed, Refused}
use Rattle.jvm_type_inference.specs.Joins.{ranks}

-- nothing is known of the local variables that are not kept
abbrev pub type_frame : Frame → TypeFrame
type_frame f = record { locals = λ i. slice_index_or f.locals i Top; stack = f.stack }

-- the frame with which a method is entered
abbrev pub entry_of : LinkedMethod → Frame
entry_of method = record { locals = method.parameters; stack = [] }

-- the frame at an offset, where there is one
abbrev pub frame_at : List (Option Frame) → ℕ → Option TypeFrame
frame_at frames at = option_map type_frame (slice_index_or frames at None)

-- a frame has at most so many local variables and operands
pub record IsSized (locals stack : ℕ) (f : Frame) : Type 0 where
  pub locals_fit : length f.locals ≤ locals
  pub stack_fits : length f.stack ≤ stack

-- and each operand has a type
pub record IsFormed (locals stack : ℕ) (f : Frame) : Type 0 where
  pub sized : IsSized locals stack f
  pub operands : no_top f.stack ≡ true

-- how far a frame can rise, where no frame can rise further than one of so many local variables and operands
abbrev pub weight : ℕ → ℕ → Option Frame → ℕ
weight locals stack None = suc (2 * (locals + stack))
weight locals stack (Some f) = ranks f.locals + ranks f.stack

-- ---- a frame comes to an instruction that has one, or none yet

pub record IsAbove (old : Option Frame) (f : Frame) (u : TypeFrame) : Type 0 where
  pub operands : no_top u.stack ≡ true
  pub above_old : (g : Frame) → old ≡ Some g → Below (type_frame g) u
  pub above_new : Below (type_frame f) u

pub record IsStill (old : Option Frame) (f : Frame) : Type 0 where
  pub frame : Frame
  pub is : old ≡ Some frame
  pub above : Below (type_frame f) (type_frame frame)

pub record IsJoin (old : Option Frame) (f h : Frame) : Type 0 where
  pub above_old : (g : Frame) → old ≡ Some g → Below (type_frame g) (type_frame h)
  pub above_new : Below (type_frame f) (type_frame h)
  pub least : (u : TypeFrame) → IsAbove old f u → Below (type_frame h) u
  pub formed : (locals stack : ℕ) → ((g : Frame) → old ≡ Some g → IsFormed locals stack g)
      → IsSized locals stack f → IsFormed locals stack h
  pub falls : (locals stack : ℕ) → IsSized locals stack f
      → weight locals stack (Some h) < weight locals stack old

-- the frame there is above the new one; or the least one above both is another; or there is none
abbrev pub IsMeeting : Option Frame → Frame → Meeting → Type 0
IsMeeting old f Unchanged = IsStill old f
IsMeeting old f (Changed h) = IsJoin old f h
IsMeeting old f Refused = (u : TypeFrame) → IsAbove old f u → ⊥
