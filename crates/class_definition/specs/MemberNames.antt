-- JVM Specification, 5.4.3: what the names in a class mean.
use Rattle.std.specs.Prelude.{ℕ, ◌&&◌, ◌||◌, Bool, if◌then◌else◌, List, [], ◌∷◌, map, position, flat_map, codes, Option, Some, None, unwrap_or, option_and_then}
use Rattle.std.specs.List.{list_any}
use Rattle.class_definition.specs.NameGrammar.{same_text}
use Rattle.class_definition.specs.PoolEntries.{name_entry}
use Rattle.class_definition.specs.PoolChecks.{entry_at, text_at, class_text_at}
use Rattle.class_definition.specs.declared.class.Class.{Class}
use Rattle.class_definition.specs.declared.member.Member.{Member}
use Rattle.class_definition.specs.declared.method.Method.{Method}

-- the text, and the name of a class, in a slot of a class's pool
abbrev pub slot_text : Class → ℕ → List ℕ
slot_text c slot = unwrap_or (text_at c.pool slot) []

abbrev pub class_name_at : Class → ℕ → List ℕ
class_name_at c slot = unwrap_or (class_text_at c.pool slot) []

abbrev pub own_name : Class → List ℕ
own_name c = class_name_at c c.this_class

-- a name and a descriptor
pub record Signature : Type 0 where
  pub name : List ℕ
  pub descriptor : List ℕ

abbrev pub signature : List ℕ → List ℕ → Signature
signature name descriptor = record { name = name; descriptor = descriptor }

abbrev pub same_signature : Signature → Signature → Bool
same_signature s t = same_text s.name t.name && same_text s.descriptor t.descriptor

abbrev pub field_signature : Class → Member → Signature
field_signature c f = signature (slot_text c f.name) (slot_text c f.desc)

abbrev pub method_signature : Class → Method → Signature
method_signature c m = signature (slot_text c m.name) (slot_text c m.desc)

abbrev pub fields_of : Class → List Signature
fields_of c = map (field_signature c) c.fields

abbrev pub methods_of : Class → List Signature
methods_of c = map (method_signature c) c.methods

abbrev pub has_signature : List Signature → Signature → Bool
has_signature signatures s = list_any (same_signature s) signatures

abbrev pub has_signature_name : List Signature → List ℕ → Bool
has_signature_name signatures name = list_any (λ (s : Signature). same_text name s.name) signatures

-- the name and descriptor in a slot
abbrev pub signature_of : Class → Option (ℕ × ℕ) → Signature
signature_of c None = signature [] []
signature_of c (Some slots) = signature (slot_text c slots.0) (slot_text c slots.1)

abbrev pub signature_at : Class → ℕ → Signature
signature_at c slot = signature_of c (option_and_then name_entry (entry_at c.pool slot))

-- ---- the classes that are known

abbrev pub object_name : List ℕ
object_name = codes "java/lang/Object"

abbrev pub string_name : List ℕ
string_name = codes "java/lang/String"

abbrev pub host_name : List ℕ
host_name = codes "nestedvm/Host"

abbrev pub is_known : List ℕ → Bool
is_known name = same_text name object_name || same_text name string_name || same_text name host_name

abbrev pub length_signature : Signature
length_signature = signature (codes "length") (codes "()I")

abbrev pub char_at_signature : Signature
char_at_signature = signature (codes "charAt") (codes "(I)C")

-- the readable pages, the writable pages, the number and four words of a call
abbrev pub host_call_signature : Signature
host_call_signature = signature (codes "call") (codes "([[I[[IIIIII)I")

-- the kind, pc and value of a fault
abbrev pub host_fault_signature : Signature
host_fault_signature = signature (codes "fault") (codes "(III)V")

abbrev pub known_methods : List ℕ → List Signature
known_methods name =
    if same_text name string_name then length_signature ∷ char_at_signature ∷ []
    else if same_text name host_name then host_call_signature ∷ host_fault_signature ∷ []
    else []

-- ---- classes by their names

abbrev pub is_named : List ℕ → Class → Bool
is_named name c = same_text name (own_name c)

abbrev pub has_class : List Class → List ℕ → Bool
has_class classes name = list_any (is_named name) classes

-- the members of the class of a name, of which there is one at most, and others where there is none
abbrev pub members_named : (Class → List Signature) → List Signature → List Class → List ℕ
    → List Signature
members_named members others [] name = others
members_named members others (c ∷ classes) name =
    if is_named name c then members c else members_named members others classes name

abbrev pub fields_named : List Class → List ℕ → List Signature
fields_named classes name = members_named fields_of [] classes name

abbrev pub methods_named : List Class → List ℕ → List Signature
methods_named classes name = members_named methods_of (known_methods name) classes name

-- ---- fields and methods by their numbers, class by class

pub record Reference : Type 0 where
  pub class_name : List ℕ
  pub signature : Signature

abbrev pub reference_to : List ℕ → Signature → Reference
reference_to class_name signature = record { class_name = class_name; signature = signature }

abbrev pub same_reference : Reference → Reference → Bool
same_reference r s = same_text r.class_name s.class_name && same_signature r.signature s.signature

abbrev pub all_fields : List Class → List Reference
all_fields classes = flat_map (λ c. map (reference_to (own_name c)) (fields_of c)) classes

abbrev pub all_methods : List Class → List Reference
all_methods classes = flat_map (λ c. map (reference_to (own_name c)) (methods_of c)) classes

abbrev pub field_number : List Class → Reference → Option ℕ
field_number classes r = position (same_reference r) (all_fields classes)

abbrev pub method_number : List Class → Reference → Option ℕ
method_number classes r = position (same_reference r) (all_methods classes)
