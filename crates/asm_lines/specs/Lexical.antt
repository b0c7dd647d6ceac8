-- How an assembly text is cut: lines, words and operands. Bytes are ASCII.
use Rattle.std.specs.Prelude.{ℕ, ◌==◌, ◌&&◌, ◌||◌, Bool, true, false, nat_le, cond, List, [], ◌∷◌, map, length, take, slice_index, ◌-◌, Option, Some, None}
use Rattle.std.specs.List.{slice_split}
use Rattle.std.specs.Str.{byte}

-- the lines of a text, which line feeds end; what follows the last one is a line too
abbrev pub lines_of_text : List ℕ → List (List ℕ)
lines_of_text text = slice_split (λ b. b == 10) text

-- the bytes before the first one that passes a test
abbrev pub before_byte : (ℕ → Bool) → List ℕ → List ℕ
before_byte test [] = []
before_byte test (b ∷ bs) = cond (test b) [] (b ∷ before_byte test bs)

-- the bytes from the first one on that passes a test
abbrev pub from : (ℕ → Bool) → List ℕ → List ℕ
from test [] = []
from test (b ∷ bs) = cond (test b) (b ∷ bs) (from test bs)

-- a space, or another byte that counts as one
abbrev pub is_blank : ℕ → ℕ → Bool
is_blank other b = b == 32 || b == other

abbrev pub is_dark : ℕ → ℕ → Bool
is_dark other b = cond (is_blank other b) false true

abbrev pub all : (ℕ → Bool) → List ℕ → Bool
all test [] = true
all test (b ∷ bs) = test b && all test bs

-- without the blanks at the end
abbrev pub up_to_last : ℕ → List ℕ → List ℕ
up_to_last other [] = []
up_to_last other (b ∷ bs) = cond (all (is_blank other) (b ∷ bs)) [] (b ∷ up_to_last other bs)

-- without the blanks at both ends: spaces, and another byte that counts as one
abbrev pub trimmed_line : ℕ → List ℕ → List ℕ
trimmed_line other bs = up_to_last other (from (is_dark other) bs)

-- a line without its comment, and without spaces and tabs at its ends
abbrev pub bare_line : List ℕ → List ℕ
bare_line line = trimmed_line 9 (before_byte (λ b. b == byte "#") line)

-- the first word of a bare line, up to a space
abbrev pub first_word : List ℕ → List ℕ
first_word line = before_byte (λ b. b == 32) line

-- what follows the first word and its spaces
abbrev pub after_word : List ℕ → List ℕ
after_word line = from (is_dark 32) (from (λ b. b == 32) line)

-- the operands, which commas separate, with spaces around them
abbrev pub operand_texts : List ℕ → List (List ℕ)
operand_texts rest = map (trimmed_line 32) (slice_split (λ b. b == byte ",") rest)

-- a letter or `_`
abbrev pub begins_name : ℕ → Bool
begins_name b = (nat_le 97 b && nat_le b 122) || (nat_le 65 b && nat_le b 90) || b == 95

-- a letter, a digit or `_`
abbrev pub goes_on_name : ℕ → Bool
goes_on_name b = begins_name b || (nat_le 48 b && nat_le b 57)

abbrev pub is_name : List ℕ → Bool
is_name [] = false
is_name (b ∷ bs) = begins_name b && all goes_on_name bs

-- the name in a word that is a name and one byte behind it
abbrev pub name_before : ℕ → List ℕ → Option (List ℕ)
name_before stop word =
    let name = take (length word - 1) word in
    cond (slice_index word (length word - 1) == stop && is_name name) (Some name) None
