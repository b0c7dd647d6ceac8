-- What a word before `--` is: a plain word, an option, or neither. The byte 45 is `-`, and 61 is `=`.
use Rattle.std.specs.Prelude.{ℕ, Bool, true, false, not, ◌==◌, ◌||◌, if◌then◌else◌, List, [], ◌∷◌, Option, Some, None, codes, map, string_bytes, String, option_and_then, is_some}
use Rattle.std.specs.List.{list_any, before_first, after_first}
use Rattle.std.specs.Option.{option_map_or}
use Rattle.std.specs.Str.{bytes_eq}
use Rattle.std.specs.declared.alloc.Global.{Global}
use Rattle.nv_values.specs.Names.{Text}

-- the texts of the words
abbrev pub texts : List (String Global) → List Text
texts words = map string_bytes words

-- a plain word is not empty, and does not begin with `-`
abbrev pub is_plain : Text → Bool
is_plain [] = false
is_plain (b ∷ bs) = not (b == 45)

-- what follows a first `-`
abbrev pub after_hyphen : Text → Option Text
after_hyphen [] = None
after_hyphen (b ∷ bs) = if b == 45 then Some bs else None

abbrev pub is_equals : ℕ → Bool
is_equals b = b == 61

-- the name before the first `=`, and the value after it if it is there
abbrev pub name_and_value : Text → Option (Text × Option Text)
name_and_value [] = None
name_and_value (b ∷ bs) = Some (
  before_first is_equals (b ∷ bs),
  if list_any is_equals (b ∷ bs) then Some (after_first is_equals (b ∷ bs)) else None,
)

-- `--name` or `--name=value`, as the name and the value
abbrev pub option_in : Text → Option (Text × Option Text)
option_in word = option_and_then name_and_value (option_and_then after_hyphen (after_hyphen word))

-- the word is `--name`, so the next word is the option's value
abbrev pub waits_for_value : Text → Bool
waits_for_value word = option_map_or (λ o. not (is_some o.1)) (option_in word) false

-- the word is `--name` or `--name=value` with this name
abbrev pub is_option : Text → Text → Bool
is_option name word = option_map_or (λ o. bytes_eq o.0 name) (option_in word) false

-- a value of `--name=value` is not empty
abbrev pub has_some_value : Option Text → Bool
has_some_value None = true
has_some_value (Some []) = false
has_some_value (Some (b ∷ bs)) = true

-- the word is a plain word, or `--name`, or `--name=value` with a value that is not empty
abbrev pub is_formed : Text → Bool
is_formed word = is_plain word || option_map_or (λ o. has_some_value o.1) (option_in word) false

-- `--`
abbrev pub is_end_of_words : Text → Bool
is_end_of_words word = bytes_eq word (codes "--")
