-- JVM Specification, 4.1 and 4.5 to 4.7: what the slots of a class, of its fields and of its methods name.
use Rattle.std.specs.Prelude.{ℕ, ◌&&◌, Bool, false, not, if◌then◌else◌, List, codes, Option, Some, None}
use Rattle.std.specs.Int.{w16}
use Rattle.class_definition.specs.declared.class_fault.ClassFault.{ClassFault}
use Rattle.class_definition.specs.Kinds.{cut, index, attribute}
use Rattle.class_definition.specs.Format.{Format, number_format, tested, checked}
use Rattle.class_definition.specs.declared.entry.Entry.{Entry}
use Rattle.class_definition.specs.NameGrammar.{same_text, is_class_file_name, is_method_descriptor}
use Rattle.class_definition.specs.PoolChecks.{text_at, class_text_at, text_fault}

-- a fault of a kind, at the field itself
abbrev pub fault_here : Option ℕ → Option ClassFault
fault_here None = None
fault_here (Some kind) = Some (record { kind = kind; at = 0 })

-- a slot that has no fault of its own
abbrev pub slot_of : (ℕ → Option ℕ) → Format ℕ
slot_of fault = checked (λ n. fault_here (fault n)) (number_format cut w16)

-- a slot of a text that passes a test
abbrev pub text_slot : List Entry → (List ℕ → Bool) → Format ℕ
text_slot pool test = slot_of (λ n. text_fault test (text_at pool n))

-- the class itself, which is no array
abbrev pub this_slot : List Entry → Format ℕ
this_slot pool = slot_of (λ n. text_fault is_class_file_name (class_text_at pool n))

abbrev pub is_object : Option (List ℕ) → Bool
is_object None = false
is_object (Some name) = same_text name (codes "java/lang/Object")

-- the class above it
abbrev pub super_slot : List Entry → Format ℕ
super_slot pool = tested index (λ n. is_object (class_text_at pool n)) (number_format cut w16)

-- a method of the class itself gives an int or nothing
abbrev pub is_own_descriptor : List ℕ → Bool
is_own_descriptor descriptor = is_method_descriptor descriptor
    && not (same_text descriptor (codes "(I)C"))

-- the name of the attribute with a method's code
abbrev pub code_name_fault : Option (List ℕ) → Option ℕ
code_name_fault None = Some index
code_name_fault (Some name) = if same_text name (codes "Code") then None else Some attribute

abbrev pub code_name_slot : List Entry → Format ℕ
code_name_slot pool = slot_of (λ n. code_name_fault (text_at pool n))
