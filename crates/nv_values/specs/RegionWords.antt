-- How many words of 32 bits a class machine has for arrays.
use Rattle.std.specs.Prelude.{ℕ, ◌≤◌}

abbrev pub least_region_words : ℕ
least_region_words = 1

-- what the classes of a program with 65,536 mapped pages take
abbrev pub most_region_words : ℕ
most_region_words = 68288580

abbrev pub AreRegionWords : ℕ → Type 0
AreRegionWords n = (least_region_words ≤ n) × (n ≤ most_region_words)
