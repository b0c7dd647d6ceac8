-- The amounts by which parts of a word are shifted, and the bits of bytes and half-words.
use Rattle.std.proofs.Common.{◌≡◌, ℕ, ◌+◌, ◌-◌, ◌*◌, ◌/◌, ◌%◌, ◌^◌, ◌<◌, bit_and, bit_or, bit_xor, ◌⊎◌, inl, inr, refl, ap, subst, ◌∙◌, arith}
use Rattle.std.proofs.lemmas.Nat.{and_mask, or_shifted, xor_mod}
use Rattle.std.proofs.lemmas.Bool.{cases_eq}
use Rattle.run_definition.specs.Words.{IsWord, lane_of_word, half_of_bytes}
use Rattle.nv_words.proofs.LaneLemmas.{below_four}

-- eight times the address whose low bits are turned, as a count of a shift
abbrev pub backward : ℕ → ℕ → ℕ
backward low a = bit_xor a low * 2 ^ 3 % 2 ^ 32 % 32

abbrev pub forward : ℕ → ℕ
forward a = a * 2 ^ 3 % 2 ^ 32 % 32

pub forward-is : (a : ℕ) → forward a ≡ 8 * (a % 4)
forward-is a = omega arith

both-turned : (k : ℕ) → k < 4 → bit_xor k 3 ≡ 3 - k
both-turned k h = below_four (λ k. bit_xor k 3 ≡ 3 - k) refl refl refl refl k h

pub backward-is : (a : ℕ) → backward 3 a ≡ 24 - 8 * (a % 4)
backward-is a =
    let low : bit_xor a 3 % 4 ≡ bit_xor (a % 4) 3 = xor_mod a 3 2 in
    let turned : bit_xor (a % 4) 3 ≡ 3 - a % 4 = both-turned (a % 4) (omega arith) in
    omega arith

-- the two places of a half-word
pub even : (P : ℕ → Type 0) → P 0 → P 2 → (a : ℕ) → a % 2 ≡ 0 → P (a % 4)
even P first second a aligned = by_cases (cases_eq (a % 4) 0)
  where
    by_cases : (a % 4 ≡ 0) ⊎ (a % 4 ≡ 0 → ⊥) → P (a % 4)
    by_cases (inl e) = let e : 0 ≡ a % 4 = omega arith in subst P e first
    by_cases (inr ne) = let e : 2 ≡ a % 4 = omega arith in subst P e second

pub half-backward-is : (a : ℕ) → a % 2 ≡ 0 → backward 2 a ≡ 16 - 8 * (a % 4)
half-backward-is a aligned =
    let low : bit_xor a 2 % 4 ≡ bit_xor (a % 4) 2 = xor_mod a 2 2 in
    let turned : bit_xor (a % 4) 2 ≡ 2 - a % 4 = even (λ k. bit_xor k 2 ≡ 2 - k) refl refl a aligned in
    omega arith

-- ---- bytes

pub byte-bits : (v a : ℕ) → v / 2 ^ backward 3 a % 2 ^ 8 ≡ lane_of_word v (a % 4)
byte-bits v a = ap (λ n. v / 2 ^ n % 2 ^ 8) (backward-is a)

-- ---- half-words

pub half-bits : (v a : ℕ) → IsWord v → a % 2 ≡ 0 → v / 2 ^ backward 2 a % 2 ^ 16 ≡ half_of_bytes (lane_of_word v (a % 4)) (lane_of_word v (a % 4 + 1))
half-bits v a word aligned =
    ap (λ n. v / 2 ^ n % 2 ^ 16) (half-backward-is a aligned)
    ∙ even (λ k. v / 2 ^ (16 - 8 * k) % 2 ^ 16 ≡ half_of_bytes (lane_of_word v k) (lane_of_word v (k + 1))) (omega arith) (omega arith) a aligned

-- the two low bytes of a number turned round, with other bits above them
abbrev pub turned : ℕ → ℕ
turned n = bit_or (n * 2 ^ 8 % 2 ^ 32) (bit_and (n / 2 ^ 8) 255)

pub turned-bits : (n : ℕ) → turned n % 2 ^ 16 ≡ half_of_bytes (n % 2 ^ 8) (n / 2 ^ 8 % 2 ^ 8)
turned-bits n =
    let high : n * 2 ^ 8 % 2 ^ 32 ≡ n % 2 ^ 24 * 2 ^ 8 = omega arith in
    let low : bit_and (n / 2 ^ 8) 255 ≡ n / 2 ^ 8 % 2 ^ 8 = and_mask (n / 2 ^ 8) 8 in
    let joined : bit_or (n % 2 ^ 24 * 2 ^ 8) (n / 2 ^ 8 % 2 ^ 8) ≡ n % 2 ^ 24 * 2 ^ 8 + n / 2 ^ 8 % 2 ^ 8 = or_shifted (n % 2 ^ 24) 8 (n / 2 ^ 8 % 2 ^ 8) (omega arith) in
    let whole : turned n ≡ n % 2 ^ 24 * 2 ^ 8 + n / 2 ^ 8 % 2 ^ 8 = ap (λ x. bit_or x (bit_and (n / 2 ^ 8) 255)) high ∙ ap (bit_or (n % 2 ^ 24 * 2 ^ 8)) low ∙ joined in
    ap (λ x. x % 2 ^ 16) whole ∙ omega arith

pub turned-half-bits : (v a : ℕ) → IsWord v → a % 2 ≡ 0 → turned (v / 2 ^ backward 2 a) % 2 ^ 16 ≡ half_of_bytes (lane_of_word v (a % 4 + 1)) (lane_of_word v (a % 4))
turned-half-bits v a word aligned =
    let n = v / 2 ^ backward 2 a in
    let half : n % 2 ^ 16 ≡ half_of_bytes (lane_of_word v (a % 4)) (lane_of_word v (a % 4 + 1)) = half-bits v a word aligned in
    let first : lane_of_word v (a % 4) < 2 ^ 8 = omega arith in
    let second : lane_of_word v (a % 4 + 1) < 2 ^ 8 = omega arith in
    turned-bits n ∙ omega arith
