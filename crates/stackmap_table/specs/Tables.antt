-- JVM Specification, Java SE 7 edition, 4.7.4: the frames of a StackMapTable as bytes.
use Rattle.std.specs.Prelude.{ℕ, ◌+◌, ◌-◌, ◌==◌, nat_lt, if◌then◌else◌, List, [], ◌∷◌, length, codes, Option, Some, None, is_some}
use Rattle.std.specs.Int.{w8, w16}
use Rattle.class_definition.specs.Format.{Format, number_format, nothing, both, mapped, tested, counted, repeated, refused_format, headed, FormatRow, tagged}
use Rattle.class_definition.specs.declared.entry.Entry.{Entry}
use Rattle.class_definition.specs.NameGrammar.{same_text}
use Rattle.class_definition.specs.PoolChecks.{class_text_at}
use Rattle.jvm_definition.specs.declared.kind.Kind.{Kind}
use Rattle.jvm_definition.specs.declared.kind.Kind.TheVariants as kinds
use Rattle.stackmap_table.specs.declared.place.Place.{Place}
use Rattle.stackmap_table.specs.declared.place.Place.TheVariants.{Local, Operand}
use Rattle.stackmap_table.specs.declared.table_type.TableType.{TableType}
use Rattle.stackmap_table.specs.declared.table_type.TableType.TheVariants.{Top, Int, Long, Null, Object}
use Rattle.stackmap_table.specs.declared.table_frame.TableFrame.{TableFrame}
use Rattle.stackmap_table.specs.declared.table_frame.TableFrame.TheVariants.{Same, SameWithOperand, SameWithOperandExtended, Chop, SameExtended, Append, Full}

-- the one kind of what is wrong with a table
abbrev pub bad_table : ℕ
bad_table = 1

-- ---- types

-- the type of the references to a class with a name, where there are such references
abbrev pub reference_kind : Option (List ℕ) → Option Kind
reference_kind None = None
reference_kind (Some name) =
    if same_text name (codes "[I") then Some kinds.Ints
    else if same_text name (codes "[[I") then Some kinds.Pages
    else if same_text name (codes "java/lang/String") then Some kinds.Text else None

-- the type of the references to the class in a slot
abbrev pub kind_at : List Entry → ℕ → Option Kind
kind_at pool slot = reference_kind (class_text_at pool slot)

abbrev pub type_tag : TableType → ℕ
type_tag Top = 0
type_tag Int = 1
type_tag Long = 4
type_tag Null = 5
type_tag (Object slot) = 7

abbrev pub top_of : TableType → Option (Unit {0})
top_of Top = Some tt
top_of _ = None

abbrev pub int_of : TableType → Option (Unit {0})
int_of Int = Some tt
int_of _ = None

abbrev pub long_type : TableType → Option (Unit {0})
long_type Long = Some tt
long_type _ = None

abbrev pub null_of : TableType → Option (Unit {0})
null_of Null = Some tt
null_of _ = None

abbrev pub object_of : TableType → Option ℕ
object_of (Object slot) = Some slot
object_of _ = None

abbrev pub plain : ℕ → TableType → (TableType → Option (Unit {0})) → FormatRow TableType
plain tag type back = record { tag = tag; form = mapped (λ _. type) back nothing }

abbrev pub reference_slot : List Entry → Format ℕ
reference_slot pool =
    tested bad_table (λ slot. is_some (kind_at pool slot)) (number_format bad_table w16)

abbrev pub reference_row : List Entry → FormatRow TableType
reference_row pool = record { tag = 7; form = mapped Object object_of (reference_slot pool) }

-- a local variable is no long, and an operand has a type
abbrev pub types_at : List Entry → Place → List (FormatRow TableType)
types_at pool Local =
    plain 0 Top top_of ∷ plain 1 Int int_of ∷ plain 5 Null null_of ∷ reference_row pool ∷ []
types_at pool Operand =
    plain 1 Int int_of ∷ plain 4 Long long_type ∷ plain 5 Null null_of ∷ reference_row pool ∷ []

unfoldable pub type_at : List Entry → Place → Format TableType
type_at pool place = tagged bad_table bad_table type_tag (types_at pool place)

-- ---- frames

abbrev pub frame_tag : TableFrame → ℕ
frame_tag (Same delta) = delta
frame_tag (SameWithOperand delta type) = 64 + delta
frame_tag (SameWithOperandExtended delta type) = 247
frame_tag (Chop delta dropped) = 251 - dropped
frame_tag (SameExtended delta) = 251
frame_tag (Append delta types) = 251 + length types
frame_tag (Full delta locals operands) = 255

abbrev pub same_of : ℕ → TableFrame → Option (Unit {0})
same_of n (Same delta) = if delta == n then Some tt else None
same_of n _ = None

abbrev pub same_frame : ℕ → Format TableFrame
same_frame delta = mapped (λ _. Same delta) (same_of delta) nothing

abbrev pub operand_of : ℕ → TableFrame → Option TableType
operand_of n (SameWithOperand delta type) = if delta == n then Some type else None
operand_of n _ = None

abbrev pub same_with_operand : List Entry → ℕ → Format TableFrame
same_with_operand pool delta =
    mapped (SameWithOperand delta) (operand_of delta) (type_at pool Operand)

abbrev pub delta : Format ℕ
delta = number_format bad_table w16

abbrev pub extended_operand_of : TableFrame → Option (ℕ × TableType)
extended_operand_of (SameWithOperandExtended delta type) = Some (delta, type)
extended_operand_of _ = None

abbrev pub same_with_operand_extended : List Entry → Format TableFrame
same_with_operand_extended pool =
    mapped (λ x. SameWithOperandExtended x.0 x.1) extended_operand_of
    (both delta (λ _. type_at pool Operand))

abbrev pub chop_of : ℕ → TableFrame → Option ℕ
chop_of n (Chop delta dropped) = if dropped == n then Some delta else None
chop_of n _ = None

abbrev pub chop : ℕ → Format TableFrame
chop dropped = mapped (λ delta. Chop delta dropped) (chop_of dropped) delta

abbrev pub extended_of : TableFrame → Option ℕ
extended_of (SameExtended delta) = Some delta
extended_of _ = None

abbrev pub same_extended : Format TableFrame
same_extended = mapped SameExtended extended_of delta

abbrev pub append_of : TableFrame → Option (ℕ × List TableType)
append_of (Append delta types) = Some (delta, types)
append_of _ = None

abbrev pub append : List Entry → ℕ → Format TableFrame
append pool n =
    mapped (λ x. Append x.0 x.1) append_of (both delta (λ _. repeated (type_at pool Local) n))

abbrev pub full_of : TableFrame → Option (ℕ × (List TableType × List TableType))
full_of (Full delta locals operands) = Some (delta, (locals, operands))
full_of _ = None

abbrev pub full : List Entry → Format TableFrame
full pool =
    mapped (λ x. Full x.0 x.1.0 x.1.1) full_of
    (both delta (λ _. both (counted bad_table w16 (type_at pool Local))
    (λ _. counted bad_table w16 (type_at pool Operand))))

-- what follows a tag
abbrev pub form : List Entry → ℕ → Format TableFrame
form pool tag =
    if nat_lt tag 64 then same_frame tag
    else if nat_lt tag 128 then same_with_operand pool (tag - 64)
    else if nat_lt tag 247 then refused_format bad_table 1
    else if tag == 247 then same_with_operand_extended pool
    else if nat_lt tag 251 then chop (251 - tag)
    else if tag == 251 then same_extended
    else if nat_lt tag 255 then append pool (tag - 251)
    else full pool

unfoldable pub frame : List Entry → Format TableFrame
frame pool = headed (number_format bad_table w8) frame_tag (form pool)

abbrev pub frame_table : List Entry → Format (List TableFrame)
frame_table pool = counted bad_table w16 (frame pool)
