-- What names, descriptors and slots a class file takes (JVM Specification, 4.2 to 4.4).
use Rattle.std.specs.Prelude.{ℕ, ◌&&◌, ◌||◌, Bool, true, false, List, Option, Some}
use Rattle.class_definition.specs.declared.entry.Entry.{Entry}
use Rattle.class_definition.specs.declared.entry.Entry.TheVariants.{Utf8, ClassName, FieldRef, MethodRef}
use Rattle.class_definition.specs.PoolChecks.{entry_at}
use Rattle.class_definition.specs.NameGrammar.{is_class_file_name, is_array_name, is_member_name, is_field_descriptor, is_method_descriptor}
use Rattle.emit_classes.specs.declared.member_kind.MemberKind.{MemberKind}
use Rattle.emit_classes.specs.declared.member_kind.MemberKind.TheVariants.{Field, Method}

-- the name of a class, or of a type of arrays
abbrev pub names_class : List ℕ → Bool
names_class name = is_class_file_name name || is_array_name name

-- ---- what stands in a slot

abbrev pub is_text : Option Entry → Bool
is_text (Some (Utf8 characters)) = true
is_text _ = false

abbrev pub is_class : Option Entry → Bool
is_class (Some (ClassName name)) = true
is_class _ = false

abbrev pub has_text : List Entry → ℕ → Bool
has_text pool slot = is_text (entry_at pool slot)

abbrev pub has_class : List Entry → ℕ → Bool
has_class pool slot = is_class (entry_at pool slot)

-- ---- members

-- the entry of a member: the slots of its class, and of its name and descriptor
abbrev pub member_entry : MemberKind → ℕ → ℕ → Entry
member_entry Field = FieldRef
member_entry Method = MethodRef

abbrev pub is_descriptor : MemberKind → List ℕ → Bool
is_descriptor Field descriptor = is_field_descriptor descriptor
is_descriptor Method descriptor = is_method_descriptor descriptor

abbrev pub names_member : MemberKind → List ℕ → List ℕ → Bool
names_member kind name descriptor = is_member_name name && is_descriptor kind descriptor

-- a field or method of the class in a slot
abbrev pub is_member : MemberKind → List Entry → ℕ → List ℕ → List ℕ → Bool
is_member kind pool class name descriptor =
    has_class pool class && names_member kind name descriptor
