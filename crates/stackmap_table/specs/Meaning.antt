-- JVM Specification, Java SE 7 edition, 4.7.4: the frames for which those of a table stand, with their offsets.
use Rattle.std.specs.Prelude.{ℕ, ◌+◌, ◌-◌, ◌&&◌, Bool, nat_le, if◌then◌else◌, List, [], ◌∷◌, ◌++◌, length, map, reverse, take, Option, Some, None, option_map, option_and_then, unwrap_or, Result, Ok, Err}
use Rattle.class_definition.specs.declared.miss.Miss.{Miss}
use Rattle.class_definition.specs.Format.{whole}
use Rattle.class_definition.specs.declared.entry.Entry.{Entry}
use Rattle.jvm_definition.specs.declared.kind.Kind.{Kind}
use Rattle.jvm_definition.specs.declared.kind.Kind.TheVariants as kinds
use Rattle.jvm_definition.specs.declared.linked_method.LinkedMethod.{LinkedMethod}
use Rattle.jvm_definition.specs.Typing.{slots_of}
use Rattle.jvm_type_inference.specs.declared.frame.Frame.{Frame}
use Rattle.stackmap_table.specs.declared.table_type.TableType.{TableType}
use Rattle.stackmap_table.specs.declared.table_type.TableType.TheVariants.{Top, Int, Long, Null, Object}
use Rattle.stackmap_table.specs.declared.table_frame.TableFrame.{TableFrame}
use Rattle.stackmap_table.specs.declared.table_frame.TableFrame.TheVariants.{Same, SameWithOperand, SameWithOperandExtended, Chop, SameExtended, Append, Full}
use Rattle.stackmap_table.specs.Tables.{kind_at, frame_table, bad_table}

abbrev pub table_kind : List Entry → TableType → Kind
table_kind pool Top = kinds.Top
table_kind pool Int = kinds.Int
table_kind pool Long = kinds.Long
table_kind pool Null = kinds.Null
table_kind pool (Object slot) = unwrap_or (kind_at pool slot) kinds.Top

-- ---- one frame

abbrev pub delta_of : TableFrame → ℕ
delta_of (Same delta) = delta
delta_of (SameWithOperand delta type) = delta
delta_of (SameWithOperandExtended delta type) = delta
delta_of (Chop delta dropped) = delta
delta_of (SameExtended delta) = delta
delta_of (Append delta types) = delta
delta_of (Full delta locals operands) = delta

-- its offset, behind that of the frame before it
abbrev pub frame_offset : Option ℕ → TableFrame → ℕ
frame_offset None frame = delta_of frame
frame_offset (Some last) frame = last + delta_of frame + 1

-- its local variables, behind those of the frame before it; there have to be as many as it drops
abbrev pub locals_of : List Entry → List Kind → TableFrame → Option (List Kind)
locals_of pool before (Chop delta dropped) =
    if nat_le dropped (length before) then Some (take (length before - dropped) before) else None
locals_of pool before (Append delta types) = Some (before ++ map (table_kind pool) types)
locals_of pool before (Full delta locals operands) = Some (map (table_kind pool) locals)
locals_of pool before _ = Some before

-- its operands, top first
abbrev pub frame_operands : List Entry → TableFrame → List Kind
frame_operands pool (SameWithOperand delta type) = table_kind pool type ∷ []
frame_operands pool (SameWithOperandExtended delta type) = table_kind pool type ∷ []
frame_operands pool (Full delta locals operands) = reverse (map (table_kind pool) operands)
frame_operands pool _ = []

-- ---- all of them

-- a frame has at most as many local variables as a method, and room for its operands, of which a long counts as two
abbrev pub is_frame_within : ℕ → ℕ → List Kind → List Kind → Bool
is_frame_within locals stack ls os = nat_le (length ls) locals && nat_le (slots_of os) stack

abbrev pub frame_at_offset : ℕ → List Kind → List Kind → ℕ × Frame
frame_at_offset at ls os = (at, record { locals = ls; stack = os })

abbrev pub then_frames : Bool → ℕ × Frame → Option (List (ℕ × Frame)) → Option (List (ℕ × Frame))
then_frames fits frame others = if fits then option_map (λ fs. frame ∷ fs) others else None

-- the frames behind one with these local variables, at the last offset; none where one of them is none of the method
abbrev pub frames_after : List Entry → ℕ → ℕ → Option ℕ → List Kind → List TableFrame
    → Option (List (ℕ × Frame))
frames_after pool locals stack last before [] = Some []
frames_after pool locals stack last before (f ∷ frames) =
    option_and_then (λ ls. then_frames (is_frame_within locals stack ls (frame_operands pool f))
    (frame_at_offset (frame_offset last f) ls (frame_operands pool f))
    (frames_after pool locals stack (Some (frame_offset last f)) ls frames))
    (locals_of pool before f)

-- the frames of a table
abbrev pub frames_of_table : List Entry → LinkedMethod → Result (List TableFrame) Miss
    → Option (List (ℕ × Frame))
frames_of_table pool method (Ok frames) =
    frames_after pool method.locals method.stack None method.parameters frames
frames_of_table pool method (Err miss) = None

-- the frames that bytes list for a method; none where they are no table of it, and no bytes list no frame
abbrev pub frames_of : List Entry → LinkedMethod → List ℕ → Option (List (ℕ × Frame))
frames_of pool method [] = Some []
frames_of pool method (byte ∷ bytes) =
    frames_of_table pool method (whole (frame_table pool) bad_table (byte ∷ bytes))
