-- Shifted words and their lanes, and words with their lanes turned round.
use Rattle.std.proofs.Common.{◌≡◌, ℕ, ◌-◌, ◌<◌, Some, refl, ap, ◌∙◌, arith}
use Rattle.run_definition.specs.Words.{lane_of_word}
use Rattle.run_definition.specs.declared.order.Order.TheVariants.{Big, Little}
use Rattle.nv_words.proofs.LaneLemmas.{below_four}
use Rattle.mips_definition.specs.Memory.{left_part, right_part, merged, word_of_lanes}
use Rattle.mips_definition.specs.Loads.{memory_stored}
use Rattle.mips_definition.specs.declared.names.store_name.StoreName.TheVariants.{Sw, Swl, Swr}
use Rattle.mips_memory.specs.OneWord.{one_word}

-- a partial store puts the lanes of the opposite partial load
pub left_lanes : (place word w : ℕ) → place < 4 → (j : ℕ) → j < 4
    → (memory_stored Swl Big (one_word word) place w).byte j ≡ Some (lane_of_word (merged (one_word w) (right_part Big (3 - place)) word) j)
left_lanes place word w h =
    below_four (λ k. (j : ℕ) → j < 4 → (memory_stored Swl Big (one_word word) k w).byte j ≡ Some (lane_of_word (merged (one_word w) (right_part Big (3 - k)) word) j))
    (below_four (λ j. (memory_stored Swl Big (one_word word) 0 w).byte j ≡ Some (lane_of_word (merged (one_word w) (right_part Big (3 - 0)) word) j)) (ap Some (omega arith)) (ap Some (omega arith)) (ap Some (omega arith)) (ap Some (omega arith)))
    (below_four (λ j. (memory_stored Swl Big (one_word word) 1 w).byte j ≡ Some (lane_of_word (merged (one_word w) (right_part Big (3 - 1)) word) j)) (ap Some (omega arith)) (ap Some (omega arith)) (ap Some (omega arith)) (ap Some (omega arith)))
    (below_four (λ j. (memory_stored Swl Big (one_word word) 2 w).byte j ≡ Some (lane_of_word (merged (one_word w) (right_part Big (3 - 2)) word) j)) (ap Some (omega arith)) (ap Some (omega arith)) (ap Some (omega arith)) (ap Some (omega arith)))
    (below_four (λ j. (memory_stored Swl Big (one_word word) 3 w).byte j ≡ Some (lane_of_word (merged (one_word w) (right_part Big (3 - 3)) word) j)) (ap Some (omega arith)) (ap Some (omega arith)) (ap Some (omega arith)) (ap Some (omega arith)))
    place h

pub right_lanes : (place word w : ℕ) → place < 4 → (j : ℕ) → j < 4
    → (memory_stored Swr Big (one_word word) place w).byte j ≡ Some (lane_of_word (merged (one_word w) (left_part Big (3 - place)) word) j)
right_lanes place word w h =
    below_four (λ k. (j : ℕ) → j < 4 → (memory_stored Swr Big (one_word word) k w).byte j ≡ Some (lane_of_word (merged (one_word w) (left_part Big (3 - k)) word) j))
    (below_four (λ j. (memory_stored Swr Big (one_word word) 0 w).byte j ≡ Some (lane_of_word (merged (one_word w) (left_part Big (3 - 0)) word) j)) (ap Some (omega arith)) (ap Some (omega arith)) (ap Some (omega arith)) (ap Some (omega arith)))
    (below_four (λ j. (memory_stored Swr Big (one_word word) 1 w).byte j ≡ Some (lane_of_word (merged (one_word w) (left_part Big (3 - 1)) word) j)) (ap Some (omega arith)) (ap Some (omega arith)) (ap Some (omega arith)) (ap Some (omega arith)))
    (below_four (λ j. (memory_stored Swr Big (one_word word) 2 w).byte j ≡ Some (lane_of_word (merged (one_word w) (left_part Big (3 - 2)) word) j)) (ap Some (omega arith)) (ap Some (omega arith)) (ap Some (omega arith)) (ap Some (omega arith)))
    (below_four (λ j. (memory_stored Swr Big (one_word word) 3 w).byte j ≡ Some (lane_of_word (merged (one_word w) (left_part Big (3 - 3)) word) j)) (ap Some (omega arith)) (ap Some (omega arith)) (ap Some (omega arith)) (ap Some (omega arith)))
    place h

-- ---- little-endian words: what a big-endian access makes of the word turned round

abbrev pub turned : ℕ → ℕ
turned w = word_of_lanes Little w

pub left_turned : (w old place : ℕ) → place < 4 → merged (one_word w) (left_part Little place) old ≡ merged (one_word (turned w)) (left_part Big (3 - place)) old
left_turned w old place h =
    below_four (λ p. merged (one_word w) (left_part Little p) old ≡ merged (one_word (turned w)) (left_part Big (3 - p)) old) (omega arith) (omega arith) (omega arith) (omega arith) place h

pub right_turned : (w old place : ℕ) → place < 4 → merged (one_word w) (right_part Little place) old ≡ merged (one_word (turned w)) (right_part Big (3 - place)) old
right_turned w old place h =
    below_four (λ p. merged (one_word w) (right_part Little p) old ≡ merged (one_word (turned w)) (right_part Big (3 - p)) old) (omega arith) (omega arith) (omega arith) (omega arith) place h

-- stores
pub word_stored : (word w j : ℕ) → j < 4 → (memory_stored Sw Big (one_word word) 0 w).byte j ≡ Some (lane_of_word w j)
word_stored word w j h = below_four (λ j. (memory_stored Sw Big (one_word word) 0 w).byte j ≡ Some (lane_of_word w j)) refl refl refl refl j h

left_as_right : (word w place : ℕ) → place < 4 → (j : ℕ) → j < 4 → (memory_stored Swl Little (one_word word) place w).byte j ≡ (memory_stored Swr Big (one_word word) place (turned w)).byte j
left_as_right word w place h =
    below_four (λ k. (j : ℕ) → j < 4 → (memory_stored Swl Little (one_word word) k w).byte j ≡ (memory_stored Swr Big (one_word word) k (turned w)).byte j)
    (below_four (λ j. (memory_stored Swl Little (one_word word) 0 w).byte j ≡ (memory_stored Swr Big (one_word word) 0 (turned w)).byte j) (ap Some (omega arith)) (ap Some (omega arith)) (ap Some (omega arith)) (ap Some (omega arith)))
    (below_four (λ j. (memory_stored Swl Little (one_word word) 1 w).byte j ≡ (memory_stored Swr Big (one_word word) 1 (turned w)).byte j) (ap Some (omega arith)) (ap Some (omega arith)) (ap Some (omega arith)) (ap Some (omega arith)))
    (below_four (λ j. (memory_stored Swl Little (one_word word) 2 w).byte j ≡ (memory_stored Swr Big (one_word word) 2 (turned w)).byte j) (ap Some (omega arith)) (ap Some (omega arith)) (ap Some (omega arith)) (ap Some (omega arith)))
    (below_four (λ j. (memory_stored Swl Little (one_word word) 3 w).byte j ≡ (memory_stored Swr Big (one_word word) 3 (turned w)).byte j) (ap Some (omega arith)) (ap Some (omega arith)) (ap Some (omega arith)) (ap Some (omega arith)))
    place h

right_as_left : (word w place : ℕ) → place < 4 → (j : ℕ) → j < 4 → (memory_stored Swr Little (one_word word) place w).byte j ≡ (memory_stored Swl Big (one_word word) place (turned w)).byte j
right_as_left word w place h =
    below_four (λ k. (j : ℕ) → j < 4 → (memory_stored Swr Little (one_word word) k w).byte j ≡ (memory_stored Swl Big (one_word word) k (turned w)).byte j)
    (below_four (λ j. (memory_stored Swr Little (one_word word) 0 w).byte j ≡ (memory_stored Swl Big (one_word word) 0 (turned w)).byte j) (ap Some (omega arith)) (ap Some (omega arith)) (ap Some (omega arith)) (ap Some (omega arith)))
    (below_four (λ j. (memory_stored Swr Little (one_word word) 1 w).byte j ≡ (memory_stored Swl Big (one_word word) 1 (turned w)).byte j) (ap Some (omega arith)) (ap Some (omega arith)) (ap Some (omega arith)) (ap Some (omega arith)))
    (below_four (λ j. (memory_stored Swr Little (one_word word) 2 w).byte j ≡ (memory_stored Swl Big (one_word word) 2 (turned w)).byte j) (ap Some (omega arith)) (ap Some (omega arith)) (ap Some (omega arith)) (ap Some (omega arith)))
    (below_four (λ j. (memory_stored Swr Little (one_word word) 3 w).byte j ≡ (memory_stored Swl Big (one_word word) 3 (turned w)).byte j) (ap Some (omega arith)) (ap Some (omega arith)) (ap Some (omega arith)) (ap Some (omega arith)))
    place h

pub left_stored : (word w place : ℕ) → place < 4 → (j : ℕ) → j < 4 → (memory_stored Swl Little (one_word word) place w).byte j ≡ Some (lane_of_word (merged (one_word (turned w)) (left_part Big (3 - place)) word) j)
left_stored word w place h j hj = left_as_right word w place h j hj ∙ right_lanes place word (turned w) h j hj

pub right_stored : (word w place : ℕ) → place < 4 → (j : ℕ) → j < 4 → (memory_stored Swr Little (one_word word) place w).byte j ≡ Some (lane_of_word (merged (one_word (turned w)) (right_part Big (3 - place)) word) j)
right_stored word w place h j hj = right_as_left word w place h j hj ∙ left_lanes place word (turned w) h j hj
