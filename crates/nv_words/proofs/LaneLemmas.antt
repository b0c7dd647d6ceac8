-- The four lanes of a word, for the crates above.
use Rattle.std.proofs.Common.{◌≡◌, ℕ, zero, suc, ◌-◌, ◌*◌, ◌%◌, ◌^◌, ◌<◌, ◌==◌, if◌then◌else◌, arith, lit<}
use Rattle.std.proofs.lemmas.Grind.{common_steps}
use Rattle.run_definition.specs.Words.{IsWord, lane_of_word, word_with_lane, word_of_bytes, signed_of, unsigned_of}

-- what holds of 0, 1, 2 and 3 holds of each number below 4
pub below_four : (P : ℕ → Type 0) → P 0 → P 1 → P 2 → P 3 → (i : ℕ) → i < 4 → P i
below_four P a b c d zero h = a
below_four P a b c d (suc zero) h = b
below_four P a b c d (suc (suc zero)) h = c
below_four P a b c d (suc (suc (suc zero))) h = d
below_four P a b c d (suc (suc (suc (suc i)))) h = absurd (omega (arith, h))

-- a lane is a byte
pub lane_of_word-lt : (w i : ℕ) → lane_of_word w i < 2 ^ 8
lane_of_word-lt w i = omega arith

-- a word is the sum of its lanes
pub word_of_lanes : (w : ℕ) → IsWord w
    → word_of_bytes (lane_of_word w 0) (lane_of_word w 1) (lane_of_word w 2) (lane_of_word w 3) ≡ w
word_of_lanes w h = omega arith

-- with one lane replaced by a byte it is a word again
pub IsWord-with_lane : (w i b : ℕ) → IsWord w → i < 4 → b < 2 ^ 8 → IsWord (word_with_lane w i b)
IsWord-with_lane w i b word h byte =
    below_four (λ i. IsWord (word_with_lane w i b)) (omega arith) (omega arith) (omega arith) (omega arith) i h

-- the lanes of a word with one lane replaced
pub lane_of_word-with_lane : (w i b k : ℕ) → IsWord w → i < 4 → b < 2 ^ 8 → k < 4
    → lane_of_word (word_with_lane w i b) k ≡ (if k == i then b else lane_of_word w k)
lane_of_word-with_lane w i b k word hi byte hk =
    below_four (λ i. lane_of_word (word_with_lane w i b) k ≡ (if k == i then b else lane_of_word w k))
    (below_four (λ k. lane_of_word (word_with_lane w 0 b) k ≡ (if k == 0 then b else lane_of_word w k)) (omega arith) (omega arith) (omega arith) (omega arith) k hk)
    (below_four (λ k. lane_of_word (word_with_lane w 1 b) k ≡ (if k == 1 then b else lane_of_word w k)) (omega arith) (omega arith) (omega arith) (omega arith) k hk)
    (below_four (λ k. lane_of_word (word_with_lane w 2 b) k ≡ (if k == 2 then b else lane_of_word w k)) (omega arith) (omega arith) (omega arith) (omega arith) k hk)
    (below_four (λ k. lane_of_word (word_with_lane w 3 b) k ≡ (if k == 3 then b else lane_of_word w k)) (omega arith) (omega arith) (omega arith) (omega arith) k hk)
    i hi

-- a shift of a byte into a lane loses no bit
pub shifted_into_lane : (b i : ℕ) → b < 2 ^ 8 → i < 4 → b * 2 ^ (24 - 8 * i) % 2 ^ 32 ≡ b * 2 ^ (24 - 8 * i)
shifted_into_lane b i h lt =
    below_four (λ i. b * 2 ^ (24 - 8 * i) % 2 ^ 32 ≡ b * 2 ^ (24 - 8 * i)) (omega arith) (omega arith) (omega arith) (omega arith) i lt

-- the lanes of a word of four bytes
pub lane_of_word-of_bytes : (a b c d : ℕ) → a < 2 ^ 8 → b < 2 ^ 8 → c < 2 ^ 8 → d < 2 ^ 8
    → (lane_of_word (word_of_bytes a b c d) 0 ≡ a) × (lane_of_word (word_of_bytes a b c d) 1 ≡ b)
    × (lane_of_word (word_of_bytes a b c d) 2 ≡ c) × (lane_of_word (word_of_bytes a b c d) 3 ≡ d)
lane_of_word-of_bytes a b c d ha hb hc hd = (omega arith, omega arith, omega arith, omega arith)

-- two words with the same lanes are the same
pub same_lanes : (v w : ℕ) → IsWord v → IsWord w → ((i : ℕ) → i < 4 → lane_of_word v i ≡ lane_of_word w i) → v ≡ w
same_lanes v w hv hw same =
    let a = same 0 (lit< tt) in
    let b = same 1 (lit< tt) in
    let c = same 2 (lit< tt) in
    let d = same 3 (lit< tt) in
    omega arith

-- a word is what its two's complement number is made of
pub unsigned_of-signed_of : (w : ℕ) → IsWord w → unsigned_of (signed_of w) ≡ w
unsigned_of-signed_of w h = grind (arith, common_steps)
