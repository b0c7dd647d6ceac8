-- JVM Specification, 4.4: the entries of a constant pool as bytes.
use Rattle.std.specs.Prelude.{ℕ, ℤ, Bool, true, false, nat_le, if◌then◌else◌, List, [], ◌∷◌, length, Option, Some, None}
use Rattle.std.specs.Int.{w16, w32, w64}
use Rattle.class_definition.specs.Kinds.{cut, tag, index, utf8}
use Rattle.class_definition.specs.Format.{Format, number_format, raw, nothing, refused_format, both, chain, mapped, parsed_format, headed, signed, FormatRow, tagged}
use Rattle.class_definition.specs.declared.entry.Entry.{Entry}
use Rattle.class_definition.specs.declared.entry.Entry.TheVariants.{Utf8, Integer, Long, LongRest, ClassName, Text, FieldRef, MethodRef, NameAnd}
use Rattle.class_definition.specs.EntryParts.{tag_of}
use Rattle.class_definition.specs.Utf8.{text_bytes, has_16_bit_characters, text_of_bytes}

-- ---- what an entry of a kind is made of

abbrev pub utf8_of : Entry → Option (List ℕ)
utf8_of (Utf8 characters) = Some characters
utf8_of _ = None

abbrev pub integer_of : Entry → Option ℤ
integer_of (Integer n) = Some n
integer_of _ = None

abbrev pub long_entry : Entry → Option ℤ
long_entry (Long n) = Some n
long_entry _ = None

abbrev pub rest_of : Entry → Option (Unit {0})
rest_of LongRest = Some tt
rest_of _ = None

abbrev pub class_entry_name : Entry → Option ℕ
class_entry_name (ClassName name) = Some name
class_entry_name _ = None

abbrev pub string_of : Entry → Option ℕ
string_of (Text string) = Some string
string_of _ = None

abbrev pub field_entry : Entry → Option (ℕ × ℕ)
field_entry (FieldRef class name) = Some (class, name)
field_entry _ = None

abbrev pub method_entry : Entry → Option (ℕ × ℕ)
method_entry (MethodRef class name) = Some (class, name)
method_entry _ = None

abbrev pub name_entry : Entry → Option (ℕ × ℕ)
name_entry (NameAnd name descriptor) = Some (name, descriptor)
name_entry _ = None

-- ---- the entries by their tags

-- the slot of another entry
abbrev pub slot_index : Format ℕ
slot_index = number_format cut w16

abbrev pub two_slots : Format (ℕ × ℕ)
two_slots = both slot_index (λ _. slot_index)

-- so many bytes of modified UTF-8; where they are no text's the entry is at fault at its tag
abbrev pub text : Format (List ℕ)
text = parsed_format utf8 1 text_of_bytes has_16_bit_characters text_bytes (headed (number_format cut w16) length (raw cut))

-- a Long takes two slots, so it cannot begin in the last one: then it is at fault at its tag
abbrev pub long : ℕ → Format Entry
long to_come = if nat_le 1 to_come then mapped Long long_entry (signed cut w64) else refused_format index 1

-- the forms behind the tags, where so many slots are to come behind this one
abbrev pub entry_forms : ℕ → List (FormatRow Entry)
entry_forms to_come =
    record { tag = 1; form = mapped Utf8 utf8_of text }
    ∷ record { tag = 3; form = mapped Integer integer_of (signed cut w32) }
    ∷ record { tag = 5; form = long to_come }
    ∷ record { tag = 7; form = mapped ClassName class_entry_name slot_index }
    ∷ record { tag = 8; form = mapped Text string_of slot_index }
    ∷ record { tag = 9; form = mapped (λ x. FieldRef x.0 x.1) field_entry two_slots }
    ∷ record { tag = 10; form = mapped (λ x. MethodRef x.0 x.1) method_entry two_slots }
    ∷ record { tag = 12; form = mapped (λ x. NameAnd x.0 x.1) name_entry two_slots }
    ∷ []

unfoldable pub entry : ℕ → Format Entry
entry to_come = tagged cut tag tag_of (entry_forms to_come)

-- ---- slots

abbrev pub is_long_entry : Entry → Bool
is_long_entry (Long n) = true
is_long_entry _ = false

-- the slot behind a Long has no bytes; any other has an entry
abbrev pub slot : Bool → ℕ → Format Entry
slot after_long to_come = if after_long then mapped (λ _. LongRest) rest_of nothing
    else entry to_come

-- so many slots
abbrev pub slots : ℕ → Format (List Entry)
slots count = chain slot (λ _ e. is_long_entry e) false count
