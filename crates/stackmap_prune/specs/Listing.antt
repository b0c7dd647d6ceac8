-- The frames that the table of pruned code lists.
use Rattle.std.specs.Prelude.{ℕ, ◌<◌, ◌==◌, ◌&&◌, ◌||◌, Bool, not, if◌then◌else◌, List, [], ◌∷◌, Option, Some, None}
use Rattle.std.specs.List.{list_any}
use Rattle.jvm_definition.specs.declared.kind.Kind.{Kind}
use Rattle.jvm_definition.specs.declared.linked_line.LinkedLine.{LinkedLine}
use Rattle.jvm_definition.specs.declared.linked_method.LinkedMethod.{LinkedMethod}
use Rattle.jvm_definition.specs.Program.{instruction_targets, falls_through}
use Rattle.jvm_definition.specs.Typing.{given_by}
use Rattle.jvm_type_inference.specs.declared.frame.Frame.{Frame}

-- it is the target of a branch or a switch, or stands behind an instruction that does not go on to the next one
abbrev pub is_entered_by : ℕ → LinkedLine → Bool
is_entered_by at l = list_any (λ t. t == at) (instruction_targets l.instruction)
    || (not (falls_through l.instruction) && l.next == at)

abbrev pub must_list : List LinkedLine → ℕ → Bool
must_list lines at = list_any (is_entered_by at) lines

-- the frame that is listed for an offset
abbrev pub frame_in : List (ℕ × Frame) → ℕ → Option Frame
frame_in [] at = None
frame_in (l ∷ listed) at = if l.0 == at then Some l.1 else frame_in listed at

-- the frame with which an instruction is entered, or a return that was put in: it takes what it gives, and knows of the local
-- variables what the frame before it in the table does
abbrev pub listed_frame : Option Frame → Bool → List Kind → Frame
listed_frame (Some f) gives_int before = f
listed_frame None gives_int before = record { locals = before; stack = given_by gives_int }

-- the frames at the instructions for which one has to be listed, from the first one on
abbrev pub listing : (ℕ → Bool) → List (ℕ × Frame) → Bool → List Kind → List LinkedLine
    → List (ℕ × Frame)
listing must reached gives_int before [] = []
listing must reached gives_int before (l ∷ lines) =
    if must l.at
    then (l.at, listed_frame (frame_in reached l.at) gives_int before)
    ∷ listing must reached gives_int
    (listed_frame (frame_in reached l.at) gives_int before).locals lines
    else listing must reached gives_int before lines

-- those of a method
abbrev pub listing_of : LinkedMethod → List (ℕ × Frame) → List (ℕ × Frame)
listing_of method reached =
    listing (must_list method.lines) reached method.gives_int method.parameters method.lines

-- each line stands before an offset
abbrev pub AllBefore : ℕ → List LinkedLine → Type 0
AllBefore end [] = Unit {0}
AllBefore end (l ∷ lines) = (l.at < end) × AllBefore end lines

-- each frame is listed for an offset before another one
abbrev pub AreListedBefore : ℕ → List (ℕ × Frame) → Type 0
AreListedBefore end [] = Unit {0}
AreListedBefore end (l ∷ listed) = (l.0 < end) × AreListedBefore end listed
