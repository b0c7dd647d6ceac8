-- A constant pool with the entries that tables of frames name. Each is put at the end where it is missing; where an entry is there
-- more than once the first one is meant.
use Rattle.std.specs.Prelude.{ℕ, Bool, false, if◌then◌else◌, List, [], ◌∷◌, ◌++◌, codes, Option, Some, None, is_some, unwrap_or}
use Rattle.std.specs.List.{position_from}
use Rattle.class_definition.specs.declared.entry.Entry.{Entry}
use Rattle.class_definition.specs.declared.entry.Entry.TheVariants.{Utf8, ClassName}
use Rattle.class_definition.specs.NameGrammar.{same_text}
use Rattle.class_definition.specs.PoolChecks.{text_at}

abbrev pub is_text_entry : List ℕ → Entry → Bool
is_text_entry text (Utf8 characters) = same_text characters text
is_text_entry text _ = false

abbrev pub is_same : List ℕ → Option (List ℕ) → Bool
is_same name None = false
is_same name (Some text) = same_text text name

-- a class by its name in a pool
abbrev pub is_class_of_name : List Entry → List ℕ → Entry → Bool
is_class_of_name pool name (ClassName slot) = is_same name (text_at pool slot)
is_class_of_name pool name _ = false

-- the first slot with a text, and with a class of a name
abbrev pub first_text_slot : List ℕ → List Entry → Option ℕ
first_text_slot text pool = position_from (is_text_entry text) 1 pool

abbrev pub class_slot : List ℕ → List Entry → Option ℕ
class_slot name pool = position_from (is_class_of_name pool name) 1 pool

unfoldable pub with_text : List ℕ → List Entry → List Entry
with_text text pool = if is_some (first_text_slot text pool) then pool else pool ++ Utf8 text ∷ []

abbrev pub with_class_of : List ℕ → List Entry → List Entry
with_class_of name pool = if is_some (class_slot name pool) then pool
    else pool ++ ClassName (unwrap_or (first_text_slot name pool) 0) ∷ []

-- a class with its name
unfoldable pub with_class_entry : List ℕ → List Entry → List Entry
with_class_entry name pool = with_class_of name (with_text name pool)

-- the name of the tables' attribute, and the classes of references
unfoldable pub framed_pool : List Entry → List Entry
framed_pool pool =
    with_class_entry (codes "java/lang/String")
    (with_class_entry (codes "[[I") (with_class_entry (codes "[I") (with_text (codes "StackMapTable") pool)))
