-- The forms of a table's frames, and how many bytes they take.
use Rattle.std.specs.Prelude.{◌≡◌, ℕ, ◌+◌, ◌≤◌, List, [], ◌∷◌, length, map, reverse, nat_lt, if◌then◌else◌, Option}
use Rattle.class_definition.specs.declared.entry.Entry.{Entry}
use Rattle.jvm_definition.specs.declared.kind.Kind.{Kind}
use Rattle.jvm_definition.specs.declared.kind.Kind.TheVariants as kinds
use Rattle.jvm_type_inference.specs.declared.frame.Frame.{Frame}
use Rattle.stackmap_table.specs.declared.form.Form.{Form}
use Rattle.stackmap_table.specs.declared.form.Form.TheVariants as forms
use Rattle.stackmap_table.specs.declared.reference_slots.ReferenceSlots.{ReferenceSlots}
use Rattle.stackmap_table.specs.declared.table_frame.TableFrame.{TableFrame}
use Rattle.stackmap_table.specs.declared.table_frame.TableFrame.TheVariants.{Same, SameWithOperand, SameWithOperandExtended, Chop, SameExtended, Append, Full}
use Rattle.stackmap_table.specs.Meaning.{frame_offset}
use Rattle.stackmap_table.specs.Written.{frame_bytes}
use Rattle.stackmap_table.specs.Shortest.{AreReferences, GivesShortest, IsTableOf, written_type}

-- the frame of a form that gives local variables and operands
abbrev pub frame_by : ReferenceSlots → ℕ → List Kind → List Kind → Form → TableFrame
frame_by slots delta locals stack forms.Same =
    if nat_lt delta 64 then Same delta else SameExtended delta
frame_by slots delta locals stack (forms.SameWithOperand kind) =
    if nat_lt delta 64 then SameWithOperand delta (written_type slots kind)
    else SameWithOperandExtended delta (written_type slots kind)
frame_by slots delta locals stack (forms.Chop dropped) = Chop delta dropped
frame_by slots delta locals stack (forms.Append added) =
    Append delta (map (written_type slots) added.now)
frame_by slots delta locals stack forms.Full =
    Full delta (map (written_type slots) locals) (reverse (map (written_type slots) stack))

-- behind others no frame has fewer bytes
abbrev pub IsShortestForm : List Kind → List Kind → List Kind → Form → Type 0
IsShortestForm before locals stack form =
    (pool : List Entry) (slots : ReferenceSlots) (delta : ℕ) → AreReferences pool slots
    → delta ≤ 65535
    → GivesShortest pool before delta locals stack (frame_by slots delta locals stack form)

-- ---- sizes

-- how many bytes a type takes
abbrev pub kind_size : Kind → ℕ
kind_size kinds.Ints = 3
kind_size kinds.Pages = 3
kind_size kinds.Text = 3
kind_size _ = 1

abbrev pub kinds_size : List Kind → ℕ
kinds_size [] = 0
kinds_size (k ∷ kinds) = kind_size k + kinds_size kinds

-- by how many bytes a delta that is not small makes a frame longer
abbrev pub delta_size : ℕ → ℕ
delta_size delta = if nat_lt delta 64 then 0 else 2

abbrev pub form_size : ℕ → List Kind → List Kind → Form → ℕ
form_size delta locals stack forms.Same = 1 + delta_size delta
form_size delta locals stack (forms.SameWithOperand kind) =
    1 + delta_size delta + kind_size kind
form_size delta locals stack (forms.Chop dropped) = 3
form_size delta locals stack (forms.Append added) = 3 + kinds_size added.now
form_size delta locals stack forms.Full = 7 + kinds_size locals + kinds_size stack

-- at most three local variables are added
abbrev pub AddsFew : Form → Type 0
AddsFew (forms.Append added) = length added.now ≤ 3
AddsFew form = Unit {0}

-- the shortest frame that gives one with these local variables has so many bytes
pub record SizesNext (pool : List Entry) (before : List Kind) (last : Option ℕ) (next : ℕ × Frame)
    (locals : List Kind) (size : ℕ) : Type 0 where
  pub delta : ℕ
  pub frame : TableFrame
  pub gives : GivesShortest pool before delta locals next.1.stack frame
  pub offset : frame_offset last frame ≡ next.0
  pub sized : size ≡ length (frame_bytes frame)

-- so many bytes are the table of the frames that are listed
pub record HasSize (pool : List Entry) (parameters : List Kind) (listed : List (ℕ × Frame))
    (size : ℕ) : Type 0 where
  pub bytes : List ℕ
  pub is : IsTableOf pool parameters listed bytes
  pub sized : size ≡ length bytes

-- whatever the slots are
abbrev pub IsSizeOf : List Kind → List (ℕ × Frame) → ℕ → Type 0
IsSizeOf parameters listed size =
    (pool : List Entry) (slots : ReferenceSlots) → AreReferences pool slots
    → HasSize pool parameters listed size
