-- The instructions of a method from the first to the last, with the frame that flows to the next one.
use Rattle.std.specs.Prelude.{◌≡◌, ℕ, true, false, if◌then◌else◌, List, [], ◌∷◌, All, Option, Some, None}
use Rattle.jvm_definition.specs.declared.linked_line.LinkedLine.{LinkedLine}
use Rattle.jvm_definition.specs.declared.linked_method.LinkedMethod.{LinkedMethod}
use Rattle.jvm_definition.specs.Program.{Program, instruction_targets, falls_through}
use Rattle.jvm_definition.specs.Typing.{TypeFrame, Below, Frames, no_top}
use Rattle.jvm_type_inference.specs.Actions.{Enters}
use Rattle.jvm_type_inference.specs.Frames.{type_frame}
use Rattle.frame_maps.specs.declared.way.Way.{Way}
use Rattle.frame_maps.specs.declared.way.Way.TheVariants.{Fails, Stops, GoesOn}

-- what flows is below a frame, if anything flows
abbrev pub FlowsBelow : Option TypeFrame → TypeFrame → Type 0
FlowsBelow None f = Unit {0}
FlowsBelow (Some g) f = Below g f

-- the frame with which an instruction is entered: the one that is listed for it, or the one that flows to it
abbrev pub Comes : Option TypeFrame → Option TypeFrame → TypeFrame → Type 0
Comes (Some g) flowing f = (g ≡ f) × FlowsBelow flowing f × (no_top f.stack ≡ true)
Comes None flowing f = (flowing ≡ Some f) × (no_top f.stack ≡ true)

-- a frame above it is listed
abbrev pub ListedAbove : Frames → TypeFrame → ℕ → Type 0
ListedAbove listed b to = (g : TypeFrame) × (listed to ≡ Some g) × Below b g

-- one instruction: the frame with which it is entered and the one behind it
pub record Steps (program : Program) (method : LinkedMethod) (listed : Frames)
    (flowing : Option TypeFrame) (line : LinkedLine) (f b : TypeFrame) : Type 0 where
  pub comes : Comes (listed line.at) flowing f
  pub enters : Enters program method line.instruction f b
  pub targets : All (ListedAbove listed b) (instruction_targets line.instruction)

abbrev pub flows_on : LinkedLine → TypeFrame → Option TypeFrame
flows_on line b = if falls_through line.instruction then Some b else None

-- all instructions; nothing flows past the last one
abbrev pub Walks : Program → LinkedMethod → Frames → Option TypeFrame → List LinkedLine → Type 0
Walks program method listed flowing [] = flowing ≡ None
Walks program method listed flowing (l ∷ lines) =
    (f : TypeFrame) × (b : TypeFrame) × Steps program method listed flowing l f b
    × Walks program method listed (flows_on l b) lines

-- what comes of one instruction
abbrev pub IsWay : Program → LinkedMethod → Frames → Option TypeFrame → LinkedLine → Way → Type 0
IsWay program method listed flowing line Fails =
    (f b : TypeFrame) → Steps program method listed flowing line f b → ⊥
IsWay program method listed flowing line Stops =
    (f : TypeFrame) × (b : TypeFrame) × Steps program method listed flowing line f b
    × (falls_through line.instruction ≡ false)
IsWay program method listed flowing line (GoesOn next) =
    (f : TypeFrame) × Steps program method listed flowing line f (type_frame next)
    × (falls_through line.instruction ≡ true)
