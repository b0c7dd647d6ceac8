-- Names, descriptors and texts that a class builder takes.
use Rattle.std.specs.Prelude.{ℕ, ◌&&◌, Bool, not, List}
use Rattle.class_definition.specs.NameGrammar.{is_class_file_name, is_member_name}
use Rattle.class_definition.specs.Named.{is_own_descriptor}
use Rattle.emit_classes.specs.declared.member_kind.MemberKind.{MemberKind}
use Rattle.emit_classes.specs.declared.member_kind.MemberKind.TheVariants.{Field, Method}
use Rattle.emit_classes.specs.Lawful.{names_class, names_member}
use Rattle.emit_classes.specs.Built.{is_long_text}

-- a class file can hold a text
abbrev pub is_short : List ℕ → Bool
is_short text = not (is_long_text text)

-- the name of a class that is made
abbrev pub is_own_name : List ℕ → Bool
is_own_name name = is_class_file_name name && is_short name

-- the name of a class, or of a type of arrays, that is named
abbrev pub can_name_class : List ℕ → Bool
can_name_class name = names_class name && is_short name

-- the name and descriptor of a field, or of a method, that is named
abbrev pub can_name_member : MemberKind → List ℕ → List ℕ → Bool
can_name_member kind name descriptor =
    names_member kind name descriptor && (is_short name && is_short descriptor)

abbrev pub can_name_field : List ℕ → List ℕ → Bool
can_name_field name descriptor = can_name_member Field name descriptor

abbrev pub can_name_method : List ℕ → List ℕ → Bool
can_name_method name descriptor = can_name_member Method name descriptor

-- the name and descriptor of a method that is made
abbrev pub is_own_method : List ℕ → List ℕ → Bool
is_own_method name descriptor = (is_member_name name && is_own_descriptor descriptor)
    && (is_short name && is_short descriptor)
