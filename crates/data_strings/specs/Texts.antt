-- The words of a page as a text: five characters of 7 bits for each word, most significant first, of the 35 bits that are three zeros and
-- the word.
use Rattle.std.specs.Prelude.{ℕ, ◌*◌, ◌/◌, ◌%◌, ◌^◌, List, [], ◌∷◌}
use Rattle.std.specs.List.{flat_map}

-- the i-th group of 7 bits, counted from the least significant
abbrev pub group : ℕ → ℕ → ℕ
group w i = w / 2 ^ (7 * i) % 2 ^ 7

abbrev pub word_text : ℕ → List ℕ
word_text w = group w 4 ∷ group w 3 ∷ group w 2 ∷ group w 1 ∷ group w 0 ∷ []

abbrev pub page_text : List ℕ → List ℕ
page_text words = flat_map word_text words
