-- What is wrong with classes that do not link: the first fault, by class and then by slot.
use Rattle.std.specs.Prelude.{ℕ, [], suc, ◌||◌, Bool, false, nat_lt, if◌then◌else◌, List, ◌∷◌, length, codes, Option, Some, None}
use Rattle.std.specs.List.{list_any}
use Rattle.std.specs.Option.{option_or}
use Rattle.class_definition.specs.declared.entry.Entry.{Entry}
use Rattle.class_definition.specs.declared.entry.Entry.TheVariants.{ClassName, FieldRef, MethodRef}
use Rattle.class_definition.specs.NameGrammar.{same_text, is_array_name}
use Rattle.class_definition.specs.declared.class.Class.{Class}
use Rattle.class_definition.specs.declared.link_fault.LinkFault.{LinkFault}
use Rattle.class_definition.specs.MemberNames.{Signature, signature, slot_text, own_name, fields_of, methods_of, has_signature, has_signature_name, signature_at, class_name_at, is_known, has_class, fields_named, methods_named}

abbrev pub twice : ℕ
twice = 1

abbrev pub no_class : ℕ
no_class = 2

abbrev pub no_field : ℕ
no_field = 3

abbrev pub no_method : ℕ
no_method = 4

abbrev pub other_descriptors : ℕ
other_descriptors = 5

abbrev pub no_run : ℕ
no_run = 6

abbrev pub too_many : ℕ
too_many = 7

abbrev pub at_class : ℕ → ℕ → Option LinkFault
at_class kind number = Some (record { kind = kind; class = number; slot = 0 })

-- ---- a name that stands twice

abbrev pub has_equal : List Signature → Bool
has_equal [] = false
has_equal (s ∷ signatures) = has_signature signatures s || has_equal signatures

-- a class with the name of one before it or of a known one, or with two equal members
abbrev pub is_twice : List (List ℕ) → Class → Bool
is_twice before c =
    list_any (same_text (own_name c)) before || is_known (own_name c) || has_equal (fields_of c)
    || has_equal (methods_of c)

abbrev pub twice_fault : List (List ℕ) → ℕ → List Class → Option LinkFault
twice_fault before number [] = None
twice_fault before number (c ∷ classes) =
    if is_twice before c then at_class twice number
    else twice_fault (own_name c ∷ before) (suc number) classes

-- ---- references

-- a member by name and descriptor
abbrev pub member_fault : ℕ → List Signature → Signature → Option ℕ
member_fault missing members s =
    if has_signature members s then None else if has_signature_name members s.name then Some other_descriptors
    else Some missing

abbrev pub is_known_class : List Class → List ℕ → Bool
is_known_class classes name = is_array_name name || is_known name || has_class classes name

abbrev pub named_entry_fault : List Class → Class → Entry → Option ℕ
named_entry_fault classes c (ClassName name) = if is_known_class classes (slot_text c name) then None
    else Some no_class
named_entry_fault classes c (FieldRef class name) =
    member_fault no_field (fields_named classes (class_name_at c class)) (signature_at c name)
named_entry_fault classes c (MethodRef class name) =
    member_fault no_method (methods_named classes (class_name_at c class)) (signature_at c name)
named_entry_fault classes c _ = None

abbrev pub fault_at_slot : ℕ → ℕ → Option ℕ → Option LinkFault → Option LinkFault
fault_at_slot number slot None others = others
fault_at_slot number slot (Some kind) others =
    Some (record { kind = kind; class = number; slot = slot })

-- the first fault among the entries from a slot on
abbrev pub slots_fault : List Class → Class → ℕ → ℕ → List Entry → Option LinkFault
slots_fault classes c number slot [] = None
slots_fault classes c number slot (e ∷ entries) =
    fault_at_slot number slot (named_entry_fault classes c e)
    (slots_fault classes c number (suc slot) entries)

-- the first among the classes from a number on
abbrev pub references_fault : List Class → ℕ → List Class → Option LinkFault
references_fault classes number [] = None
references_fault classes number (c ∷ others) =
    option_or (slots_fault classes c number 1 c.pool) (references_fault classes (suc number) others)

-- ---- the first method

abbrev pub run_signature : Signature
run_signature = signature (codes "run") (codes "()V")

abbrev pub has_run : List Class → Bool
has_run [] = false
has_run (c ∷ classes) = has_signature (methods_of c) run_signature

abbrev pub run_fault : List Class → Option LinkFault
run_fault classes = if has_run classes then None else at_class no_run 0

-- ---- all of it

abbrev pub link_fault : List Class → Option LinkFault
link_fault classes =
    if nat_lt 1024 (length classes) then at_class too_many 1024
    else option_or (twice_fault [] 0 classes)
    (option_or (references_fault classes 0 classes) (run_fault classes))
