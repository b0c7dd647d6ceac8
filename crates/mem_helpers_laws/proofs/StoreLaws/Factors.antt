-- Products and quotients of words, as longs and as ints.
use Rattle.std.proofs.Common.{◌≡◌, ℕ, zero, suc, ◌-◌, ◌*◌, ◌/◌, ◌%◌, ◌^◌, ◌<◌, ◌≤◌, ℤ, pos, negsuc, neg_ℤ, ◌*ℤ◌, bit_and, ◌⊎◌, inl, inr, ap, sym, ◌∙◌, arith, lit<}
use Rattle.std.specs.Int.{w64, cast_unsigned, cast_signed}
use Rattle.std.specs.Int.RustNames.{FitsSigned, int_div, int_rem, unsigned_abs}
use Rattle.std.proofs.Math.Nat.{div-le_self, mod-le}
use Rattle.std.proofs.lemmas.Bool.{cases_lt}
use Rattle.std.proofs.lemmas.Int.{ints, to_z-of_z, of_z-to_z, to_z_pos, wrapping_mul-bits, int_wrap_fits, fits_signed_mul, fits_signed_from_abs}
use Rattle.std.proofs.lemmas.Nat.{and_mask, mul-lt}
use Rattle.run_definition.specs.Words.{IsWord, signed_of, unsigned_of}

signed-positive : (w : ℕ) → w < 2 ^ 31 → signed_of w ≡ pos w
signed-positive w h = grind (arith, ints)

signed-negative : (w : ℕ) → 2 ^ 31 ≤ w → w < 2 ^ 32 → signed_of w ≡ negsuc (2 ^ 32 - suc w)
signed-negative w low high = grind (arith, ints)

-- the number of a word is small
pub signed-small : (w : ℕ) → IsWord w → unsigned_abs (signed_of w) ≤ 2 ^ 31
signed-small w word = by_cases (cases_lt w (2 ^ 31))
  where
    by_cases : (w < 2 ^ 31) ⊎ (2 ^ 31 ≤ w) → unsigned_abs (signed_of w) ≤ 2 ^ 31
    by_cases (inl low) = rw (signed-positive w low) (omega arith)
    by_cases (inr high) = rw (signed-negative w high word) (omega arith)

signed-fits : (w : ℕ) → IsWord w → FitsSigned w64 (signed_of w)
signed-fits w word = fits_signed_from_abs w64 (signed_of w) (omega (arith, signed-small w word))

-- ---- as longs

-- the bits of a small number are of 64 bits
bits-below : (z : ℤ) → unsigned_abs z ≤ 2 ^ 31 → cast_unsigned w64 z < 2 ^ 64
bits-below (pos n) h = omega (arith, h)
bits-below (negsuc n) h = omega arith

pub long-product : (a b : ℕ) → IsWord a → IsWord b → cast_unsigned w64 (signed_of a) * cast_unsigned w64 (signed_of b) % 2 ^ 64 ≡ cast_unsigned w64 (signed_of a *ℤ signed_of b)
long-product a b ha hb =
    let x = signed_of a in
    let y = signed_of b in
    let m = cast_unsigned w64 x in
    let n = cast_unsigned w64 y in
    let fits : FitsSigned w64 (x *ℤ y) = fits_signed_mul w64 x y (2 ^ 31) (2 ^ 31) (signed-small a ha) (signed-small b hb) (lit< tt) in
    let whole : cast_signed w64 (m * n % 2 ^ 64) ≡ x *ℤ y =
    wrapping_mul-bits w64 m n (bits-below x (signed-small a ha)) (bits-below y (signed-small b hb))
    ∙ simp (to_z-of_z w64 x (signed-fits a ha), to_z-of_z w64 y (signed-fits b hb)) (int_wrap_fits w64 (x *ℤ y) fits) in
    sym (of_z-to_z w64 (m * n % 2 ^ 64) (omega arith)) ∙ ap (cast_unsigned w64) whole

-- a word as a long without its sign
pub plain-long : (a : ℕ) → IsWord a → bit_and (cast_unsigned w64 (signed_of a)) 0xFFFFFFFF ≡ a
plain-long a word = and_mask (cast_unsigned w64 (signed_of a)) 32 ∙ by_cases (cases_lt a (2 ^ 31))
  where
    by_cases : (a < 2 ^ 31) ⊎ (2 ^ 31 ≤ a) → cast_unsigned w64 (signed_of a) % 2 ^ 32 ≡ a
    by_cases (inl low) = rw (signed-positive a low) (omega arith)
    by_cases (inr high) = rw (signed-negative a high word) (omega arith)

pub plain-product : (a b : ℕ) → IsWord a → IsWord b → a * b < 2 ^ 64
plain-product a b ha hb = mul-lt a b (2 ^ 32) (2 ^ 32) ha hb

pub plain-quotient : (a b : ℕ) → IsWord a → IsWord b → cast_unsigned w64 (int_div (cast_signed w64 a) (cast_signed w64 b)) % 2 ^ 32 ≡ a / b
plain-quotient a b ha hb =
    ap (λ x. cast_unsigned w64 (int_div x (cast_signed w64 b)) % 2 ^ 32) (to_z_pos w64 a (omega arith))
    ∙ ap (λ y. cast_unsigned w64 (int_div (pos a) y) % 2 ^ 32) (to_z_pos w64 b (omega arith))
    ∙ omega (arith, div-le_self a b)

pub plain-remainder : (a b : ℕ) → IsWord a → IsWord b → cast_unsigned w64 (int_rem (cast_signed w64 a) (cast_signed w64 b)) % 2 ^ 32 ≡ a % b
plain-remainder a b ha hb =
    ap (λ x. cast_unsigned w64 (int_rem x (cast_signed w64 b)) % 2 ^ 32) (to_z_pos w64 a (omega arith))
    ∙ ap (λ y. cast_unsigned w64 (int_rem (pos a) y) % 2 ^ 32) (to_z_pos w64 b (omega arith))
    ∙ omega (arith, mod-le a b)

-- ---- words

negative-word : (n : ℕ) → IsWord n → IsWord (unsigned_of (neg_ℤ (pos n)))
negative-word zero h = h
negative-word (suc n) h = omega arith

pub quotient-word : (x y : ℤ) → unsigned_abs x ≤ 2 ^ 31 → IsWord (unsigned_of (int_div x y))
quotient-word (pos a) (pos b) h = omega (arith, h, div-le_self a b)
quotient-word (pos a) (negsuc b) h = negative-word (a / suc b) (omega (arith, h, div-le_self a (suc b)))
quotient-word (negsuc a) (pos b) h = negative-word (suc a / b) (omega (arith, h, div-le_self (suc a) b))
quotient-word (negsuc a) (negsuc b) h = omega (arith, h, div-le_self (suc a) (suc b))

pub remainder-word : (x y : ℤ) → unsigned_abs x ≤ 2 ^ 31 → IsWord (unsigned_of (int_rem x y))
remainder-word (pos a) y h = omega (arith, h, mod-le a (unsigned_abs y))
remainder-word (negsuc a) y h = negative-word (suc a % unsigned_abs y) (omega (arith, h, mod-le (suc a) (unsigned_abs y)))
