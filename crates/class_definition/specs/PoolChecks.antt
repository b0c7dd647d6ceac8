-- JVM Specification, 4.4: what an entry names. The entries are tested after the last one was read, slot by slot.
use Rattle.std.specs.Prelude.{ℕ, ◌+◌, ◌-◌, ◌&&◌, ◌||◌, ◌==◌, Bool, true, nat_le, if◌then◌else◌, List, [], ◌∷◌, length, slice_get, Option, Some, None}
use Rattle.std.specs.Int.{w16}
use Rattle.std.specs.Option.{option_and_then}
use Rattle.class_definition.specs.declared.class_fault.ClassFault.{ClassFault}
use Rattle.class_definition.specs.Kinds.{cut, index, utf8}
use Rattle.class_definition.specs.Format.{Format, number_format, tested, headed, checked}
use Rattle.class_definition.specs.declared.entry.Entry.{Entry}
use Rattle.class_definition.specs.declared.entry.Entry.TheVariants.{Utf8, Integer, Long, LongRest, ClassName, Text, FieldRef, MethodRef, NameAnd}
use Rattle.class_definition.specs.PoolEntries.{utf8_of, class_entry_name, name_entry, slots}
use Rattle.class_definition.specs.Utf8.{text_bytes}
use Rattle.class_definition.specs.NameGrammar.{is_member_name, is_class_file_name, is_array_name, is_field_descriptor, is_method_descriptor}

-- the entry in a slot; slots are counted from 1
abbrev pub entry_at : List Entry → ℕ → Option Entry
entry_at pool n = if n == 0 then None else slice_get pool (n - 1)

-- the text in a slot, where a Utf8 stands there
abbrev pub text_at : List Entry → ℕ → Option (List ℕ)
text_at pool n = option_and_then utf8_of (entry_at pool n)

-- the text of the class in a slot, where a class stands there
abbrev pub class_text_at : List Entry → ℕ → Option (List ℕ)
class_text_at pool n = option_and_then (text_at pool) (option_and_then class_entry_name (entry_at pool n))

-- ---- faults of what is named, as their kinds

-- a text that passes a test
abbrev pub text_fault : (List ℕ → Bool) → Option (List ℕ) → Option ℕ
text_fault test None = Some index
text_fault test (Some text) = if test text then None else Some utf8

-- a text that passes a test, if there is one
abbrev pub text_fault_if_there : (List ℕ → Bool) → Option (List ℕ) → Option ℕ
text_fault_if_there test None = None
text_fault_if_there test (Some text) = if test text then None else Some utf8

-- a name and a descriptor
abbrev pub pair_fault : Option (List ℕ) → Option (List ℕ) → Option ℕ
pair_fault None descriptor = Some index
pair_fault (Some name) None = Some index
pair_fault (Some name) (Some descriptor) =
    if is_member_name name && (is_field_descriptor descriptor || is_method_descriptor descriptor)
    then None else Some utf8

-- a class, and a name with a descriptor that passes a test
abbrev pub ref_fault : List Entry → (List ℕ → Bool) → Option ℕ → Option (ℕ × ℕ) → Option ℕ
ref_fault pool test None name = Some index
ref_fault pool test (Some class) None = Some index
ref_fault pool test (Some class) (Some name) = text_fault_if_there test (text_at pool name.1)

-- what an entry's slots name
unfoldable pub pool_entry_fault : List Entry → Entry → Option ℕ
pool_entry_fault pool (Utf8 characters) = None
pool_entry_fault pool (Integer n) = None
pool_entry_fault pool (Long n) = None
pool_entry_fault pool LongRest = None
pool_entry_fault pool (ClassName name) =
    text_fault (λ cs. is_class_file_name cs || is_array_name cs) (text_at pool name)
pool_entry_fault pool (Text string) = text_fault (λ _. true) (text_at pool string)
pool_entry_fault pool (FieldRef class name) =
    ref_fault pool is_field_descriptor (option_and_then class_entry_name (entry_at pool class))
    (option_and_then name_entry (entry_at pool name))
pool_entry_fault pool (MethodRef class name) =
    ref_fault pool is_method_descriptor (option_and_then class_entry_name (entry_at pool class))
    (option_and_then name_entry (entry_at pool name))
pool_entry_fault pool (NameAnd name descriptor) =
    pair_fault (text_at pool name) (text_at pool descriptor)

-- the number of bytes of a slot
abbrev pub slot_size : Entry → ℕ
slot_size (Utf8 characters) = 3 + length (text_bytes characters)
slot_size (Integer n) = 5
slot_size (Long n) = 9
slot_size LongRest = 0
slot_size (ClassName name) = 3
slot_size (Text string) = 3
slot_size (FieldRef class name) = 5
slot_size (MethodRef class name) = 5
slot_size (NameAnd name descriptor) = 5

-- the first entry at fault, at its tag, among those whose first one stands at an offset
abbrev pub fault_or : ℕ → Option ℕ → Option ClassFault → Option ClassFault
fault_or at None others = others
fault_or at (Some kind) others = Some (record { kind = kind; at = at })

unfoldable pub pool_entries_fault : List Entry → List Entry → ℕ → Option ClassFault
pool_entries_fault pool [] at = None
pool_entries_fault pool (e ∷ entries) at =
    fault_or at (pool_entry_fault pool e) (pool_entries_fault pool entries (at + slot_size e))

-- a pool: the number of slots and 1, and the slots
abbrev pub sound_slots : ℕ → Format (List Entry)
sound_slots count = checked (λ entries. pool_entries_fault entries entries 0) (slots (count - 1))

unfoldable pub pool : Format (List Entry)
pool = headed (tested index (λ n. nat_le 1 n) (number_format cut w16)) (λ entries. length entries + 1)
    sound_slots
