-- Texts of a command line, and which of them name a class.
use Rattle.std.specs.Prelude.{◌≡◌, ℕ, Bool, true, false, ◌&&◌, ◌||◌, if◌then◌else◌, List, [], ◌∷◌, Option, Some, None, length, nat_lt}
use Rattle.std.specs.List.{list_all}
use Rattle.nv_values.specs.Ranges.{lies_in}

-- the bytes of a word, in UTF-8
abbrev pub Text : Type 0
Text = List ℕ

-- the bytes 48 to 57
abbrev pub is_digit : ℕ → Bool
is_digit b = lies_in 48 57 b

abbrev pub is_letter : ℕ → Bool
is_letter b = lies_in 65 90 b || lies_in 97 122 b

abbrev pub is_letter_or_digit : ℕ → Bool
is_letter_or_digit b = is_letter b || is_digit b

-- a NAME: a letter, then letters and digits, in ASCII, 64 at most
abbrev pub is_class_name : Text → Bool
is_class_name [] = false
is_class_name (b ∷ bs) = is_letter b && list_all is_letter_or_digit bs && nat_lt (length bs) 64

abbrev pub IsClassName : Text → Type 0
IsClassName name = is_class_name name ≡ true

-- the text, where it is one
abbrev pub lawful_name : Text → Option Text
lawful_name text = if is_class_name text then Some text else None
