-- Words as their four bytes, and the parts of them that are replaced.
use Rattle.std.proofs.Common.{◌≡◌, ℕ, ◌+◌, ◌-◌, ◌*◌, ◌/◌, ◌%◌, ◌^◌, ◌==◌, ◌<◌, nat_lt, ◌&&◌, bit_and, bit_or, bit_xor, Bool, true, false, if◌then◌else◌, ap, ◌∙◌, arith, lit<}
use Rattle.run_definition.specs.Words.{IsWord, lane_of_word, word_of_bytes, word_with_lane}
use Rattle.run_definition.specs.declared.order.Order.TheVariants.{Little}
use Rattle.nv_words.proofs.LaneLemmas.{below_four, lane_of_word-of_bytes}
use Rattle.mips_definition.specs.Memory.{word_of_lanes}
use Rattle.mem_helpers_laws.proofs.StoreLaws.Bits.{replaced, replaced-is, replaced-as}

-- the word of four bytes, by their lanes
abbrev pub word_of : (ℕ → ℕ) → ℕ
word_of f = word_of_bytes (f 0) (f 1) (f 2) (f 3)

abbrev pub AreBytes : (ℕ → ℕ) → Type 0
AreBytes f = (n : ℕ) → f n < 2 ^ 8

four-bytes : (f : ℕ → ℕ) → AreBytes f → (f 0 < 2 ^ 8) × (f 1 < 2 ^ 8) × (f 2 < 2 ^ 8) × (f 3 < 2 ^ 8)
four-bytes f bytes = (bytes 0, bytes 1, bytes 2, bytes 3)

pub word_of-lt : (f : ℕ → ℕ) → AreBytes f → IsWord (word_of f)
word_of-lt f bytes =
    let low = four-bytes f bytes in
    omega arith

-- turned round
pub word_of-turned : (f : ℕ → ℕ) → AreBytes f → word_of_lanes Little (word_of f) ≡ word_of (λ n. f (3 - n))
word_of-turned f bytes =
    let lanes = lane_of_word-of_bytes (f 0) (f 1) (f 2) (f 3) (bytes 0) (bytes 1) (bytes 2) (bytes 3) in
    let u = word_of f in
    ap (λ x. word_of_bytes x (lane_of_word u 2) (lane_of_word u 1) (lane_of_word u 0)) lanes.3
    ∙ ap (λ x. word_of_bytes (f 3) x (lane_of_word u 1) (lane_of_word u 0)) lanes.2
    ∙ ap (λ x. word_of_bytes (f 3) (f 2) x (lane_of_word u 0)) lanes.1
    ∙ ap (λ x. word_of_bytes (f 3) (f 2) (f 1) x) lanes.0

-- one byte, where a test holds
abbrev pub with_one : Bool → ℕ → ℕ → (ℕ → ℕ) → ℕ → ℕ
with_one t j c f n = if t && (n == j) then c else f n

pub with_one-lt : (t : Bool) (j c : ℕ) (f : ℕ → ℕ) → c < 2 ^ 8 → AreBytes f → AreBytes (with_one t j c f)
with_one-lt t j c f byte bytes n = by_test (t && (n == j))
  where
    by_test : (b : Bool) → (if b then c else f n) < 2 ^ 8
    by_test true = byte
    by_test false = bytes n

pub word_with_lane-of : (f : ℕ → ℕ) (c : ℕ) → AreBytes f → (j : ℕ) → j < 4 → word_with_lane (word_of f) j c ≡ word_of (with_one true j c f)
word_with_lane-of f c bytes j below =
    let low = four-bytes f bytes in
    below_four (λ j. word_with_lane (word_of f) j c ≡ word_of (with_one true j c f)) (omega arith) (omega arith) (omega arith) (omega arith) j below

-- ---- the left part and the right part, as code computes them

abbrev pub left_replaced : ℕ → ℕ → ℕ → ℕ
left_replaced u v n = bit_or (bit_and u (bit_xor (0xFFFFFFFF / 2 ^ n) 0xFFFFFFFF)) (v / 2 ^ n)

abbrev pub right_replaced : ℕ → ℕ → ℕ → ℕ
right_replaced u v n = bit_or (bit_and u (bit_xor (0xFFFFFFFF * 2 ^ n % 2 ^ 32) 0xFFFFFFFF)) (v * 2 ^ n % 2 ^ 32)

-- the bytes from lane s on are another word's first ones
abbrev pub left_bytes : ℕ → (ℕ → ℕ) → (ℕ → ℕ) → ℕ → ℕ
left_bytes s f g n = if nat_lt n s then f n else g (n - s)

-- the first bytes are another word's last ones, from lane s on
abbrev pub right_bytes : ℕ → (ℕ → ℕ) → (ℕ → ℕ) → ℕ → ℕ
right_bytes s f g n = if nat_lt (n + s) 4 then g (n + s) else f n

module _ (f g : ℕ → ℕ) (fs : AreBytes f) (gs : AreBytes g) where
  abbrev u : ℕ
  u = word_of f

  abbrev v : ℕ
  v = word_of g

  pub left-is : (s : ℕ) → s < 4 → left_replaced u v (8 * s) ≡ word_of (left_bytes s f g)
  left-is s below =
      let low = four-bytes f fs in
      let other = four-bytes g gs in
      let word : u < 2 ^ 32 = word_of-lt f fs in
      below_four (λ s. left_replaced u v (8 * s) ≡ word_of (left_bytes s f g))
      (replaced-as u 0x00000000 (v / 1) v 0 (replaced u 32 0 v) v (omega arith) (replaced-is u v 32 0 word (lit< tt) (omega arith)) (omega arith))
      (replaced-as u 0xFF000000 (v / 2 ^ 8) (v / 2 ^ 8) 0 (replaced u 24 0 (v / 2 ^ 8)) (word_of (left_bytes 1 f g)) (omega arith) (replaced-is u (v / 2 ^ 8) 24 0 word (lit< tt) (omega arith)) (omega arith))
      (replaced-as u 0xFFFF0000 (v / 2 ^ 16) (v / 2 ^ 16) 0 (replaced u 16 0 (v / 2 ^ 16)) (word_of (left_bytes 2 f g)) (omega arith) (replaced-is u (v / 2 ^ 16) 16 0 word (lit< tt) (omega arith)) (omega arith))
      (replaced-as u 0xFFFFFF00 (v / 2 ^ 24) (v / 2 ^ 24) 0 (replaced u 8 0 (v / 2 ^ 24)) (word_of (left_bytes 3 f g)) (omega arith) (replaced-is u (v / 2 ^ 24) 8 0 word (lit< tt) (omega arith)) (omega arith))
      s below

  pub right-is : (s : ℕ) → s < 4 → right_replaced u v (8 * s) ≡ word_of (right_bytes s f g)
  right-is s below =
      let low = four-bytes f fs in
      let other = four-bytes g gs in
      let word : u < 2 ^ 32 = word_of-lt f fs in
      below_four (λ s. right_replaced u v (8 * s) ≡ word_of (right_bytes s f g))
      (replaced-as u 0x00000000 (v * 1 % 2 ^ 32) v 0 (replaced u 32 0 v) v (omega arith) (replaced-is u v 32 0 word (lit< tt) (omega arith)) (omega arith))
      (replaced-as u 0x000000FF (v * 2 ^ 8 % 2 ^ 32) (v % 2 ^ 24) 8 (replaced u 24 8 (v % 2 ^ 24)) (word_of (right_bytes 1 f g)) (omega arith) (replaced-is u (v % 2 ^ 24) 24 8 word (lit< tt) (omega arith)) (omega arith))
      (replaced-as u 0x0000FFFF (v * 2 ^ 16 % 2 ^ 32) (v % 2 ^ 16) 16 (replaced u 16 16 (v % 2 ^ 16)) (word_of (right_bytes 2 f g)) (omega arith) (replaced-is u (v % 2 ^ 16) 16 16 word (lit< tt) (omega arith)) (omega arith))
      (replaced-as u 0x00FFFFFF (v * 2 ^ 24 % 2 ^ 32) (v % 2 ^ 8) 24 (replaced u 8 24 (v % 2 ^ 8)) (word_of (right_bytes 3 f g)) (omega arith) (replaced-is u (v % 2 ^ 8) 8 24 word (lit< tt) (omega arith)) (omega arith))
      s below
