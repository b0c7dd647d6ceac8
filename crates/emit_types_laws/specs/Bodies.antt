-- Code that is the whole body of a method.
use Rattle.std.specs.Prelude.{◌≡◌, ℕ, ◌+◌, ◌≤◌, ◌==◌, Bool, true, ◌&&◌, nat_lt, if◌then◌else◌, List, [], ◌∷◌, length, take, slice_get, Option, Some, None, All}
use Rattle.std.specs.List.{flat_map}
use Rattle.jvm_definition.specs.declared.instruction.Instruction.{Instruction}
use Rattle.jvm_definition.specs.declared.instruction.Instruction.TheVariants as instructions
use Rattle.jvm_definition.specs.declared.linked_method.LinkedMethod.{LinkedMethod}
use Rattle.jvm_definition.specs.Typing.{TypeFrame, entry_frame}
use Rattle.emit_steps.specs.declared.step.Step.{Step}
use Rattle.emit_steps.specs.Offsets.{CodeOffset}
use Rattle.emit_steps.specs.Widths.{width, bytes_before, size}
use Rattle.emit_steps.specs.Placing.{laid}
use Rattle.emit_types_laws.specs.Flowing.{Ahead}
use Rattle.emit_types_laws.specs.Judging.{Rules, Meets, Leads, TypesFrom, few_operands, typed_as}

-- an instruction names a local variable below a number
abbrev pub names_below : ℕ → Instruction → Bool
names_below count (instructions.Load kind i) = nat_lt i count
names_below count (instructions.Store kind i) = nat_lt i count
names_below count (instructions.Increment i by) = nat_lt i count
names_below count _ = true

abbrev pub all_names_below : ℕ → List Step → Bool
all_names_below count [] = true
all_names_below count (s ∷ code) = names_below count (typed_as s) && all_names_below count code

-- the frame of the step at an offset, where the code begins at another one
abbrev pub frame_in : ℕ → List Step → List TypeFrame → ℕ → Option TypeFrame
frame_in at [] frames x = None
frame_in at (s ∷ code) [] x = None
frame_in at (s ∷ code) (f ∷ frames) x = if at == x then Some f
    else frame_in (at + width s) code frames x

-- Code is typed as a method with such parameters: nothing goes on behind it, and where it leaves to an offset there is a step, with a frame
-- above the one that is owed there.
pub record BodyTypes (rules : Rules) (code : List Step) (entry : TypeFrame) : Type 0 where
  pub body : TypesFrom rules code entry []
  pub owed : (at : CodeOffset) (f : TypeFrame) → rules.owes at ≡ Some f
      → Meets f (frame_in 0 code body.frames at)

-- A method whose body is code that is typed.
pub record HasBody (rules : Rules) (method : LinkedMethod) (code : List Step) : Type 0 where
  pub lines_are : method.lines ≡ laid 0 code
  pub parameters : length method.parameters ≤ method.locals
  pub operands : few_operands + rules.more ≤ method.stack
  pub locals : all_names_below method.locals code ≡ true
  pub types : BodyTypes rules code (entry_frame method)

-- A frame is ahead at the step that stands at an offset: code that leaves to it comes with that frame.
pub record IsAhead (code : List Step) (ahead : Ahead) (at : CodeOffset) (f : TypeFrame)
    : Type 0 where
  pub step : ℕ
  pub offset : at ≡ bytes_before code step
  pub comes : slice_get ahead step ≡ Some (Some f)

-- ---- bodies of parts

-- Behind so many of the parts is an offset.
pub record IsBetween (front : List Step) (part : ℕ → List Step) (parts : List ℕ) (at : CodeOffset)
    : Type 0 where
  pub before : ℕ
  pub few : before ≤ length parts
  pub offset : at ≡ size front + size (flat_map part (take before parts))

-- Code leads to a frame, with which each part is entered and left, and so is the last code, with nothing behind it. Only offsets between the
-- parts are left to.
pub record HasParts (rules : Rules) (front : List Step) (part : ℕ → List Step) (parts : List ℕ)
    (back : List Step)
    (entry f : TypeFrame) : Type 0 where
  pub begins : Leads rules front entry f
  pub between : All (λ k. Leads rules (part k) f f) parts
  pub ends : TypesFrom rules back f []
  pub owed : (at : CodeOffset) (g : TypeFrame) → rules.owes at ≡ Some g → (g ≡ f)
      × IsBetween front part parts at
