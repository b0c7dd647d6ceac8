-- How far the parts of words are shifted.
use Rattle.std.proofs.Common.{◌≡◌, ℕ, ◌-◌, ◌*◌, ◌%◌, ◌^◌, ◌<◌, ◌≤◌, bit_xor, ◌⊎◌, inl, inr, refl, ◌∙◌, arith}
use Rattle.std.proofs.lemmas.Bool.{cases_lt}
use Rattle.std.proofs.lemmas.Nat.{xor_mod}
use Rattle.nv_words.proofs.LaneLemmas.{below_four}

-- as code computes it, of which the low five bits count
abbrev pub forward_amount : ℕ → ℕ
forward_amount a = a * 2 ^ 3 % 2 ^ 32

abbrev pub backward_amount : ℕ → ℕ → ℕ
backward_amount low a = bit_xor a low * 2 ^ 3 % 2 ^ 32

pub forward-is : (a : ℕ) → forward_amount a % 32 ≡ 8 * (a % 4)
forward-is a = omega arith

turned-low : (a low r : ℕ) → bit_xor a low % 4 ≡ r → backward_amount low a % 32 ≡ 8 * r
turned-low a low r e = omega (arith, e)

pub backward-is : (a : ℕ) → backward_amount 3 a % 32 ≡ 24 - 8 * (a % 4)
backward-is a =
    turned-low a 3 (3 - a % 4) (xor_mod a 3 2 ∙ below_four (λ r. bit_xor r 3 ≡ 3 - r) refl refl refl refl (a % 4) (omega arith)) ∙ omega arith

-- at even addresses
pub backward-half-is : (a : ℕ) → a % 2 ≡ 0 → backward_amount 2 a % 32 ≡ 16 - 8 * (a % 4)
backward-half-is a even =
    turned-low a 2 (2 - a % 4) (xor_mod a 2 2 ∙ by_rest (cases_lt (a % 4) 2)) ∙ omega arith
  where
    by_rest : (a % 4 < 2) ⊎ (2 ≤ a % 4) → bit_xor (a % 4) 2 ≡ 2 - a % 4
    by_rest (inl low) = let e : a % 4 ≡ 0 = omega arith in rw e refl
    by_rest (inr high) = let e : a % 4 ≡ 2 = omega arith in rw e refl
