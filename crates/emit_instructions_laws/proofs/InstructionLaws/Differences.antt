-- When a difference of words overflows.
use Rattle.std.proofs.Common.{◌≡◌, ℕ, ◌+◌, ◌-◌, ◌/◌, ◌%◌, ◌^◌, ◌<◌, ◌≤◌, min, pos, ◌-ℤ◌, int_lt, bit_and, bit_xor, nat_lt, not, Option, if◌then◌else◌, Some, None, ◌⊎◌, inl, inr, ap, sym, ◌∙◌, arith}
use Rattle.std.proofs.lemmas.Int.{ints}
use Rattle.std.proofs.lemmas.Nat.{and_le_l, xor_of_32}
use Rattle.std.proofs.lemmas.Nat.Bits.{bit_at_and, bit_at_xor}
use Rattle.std.proofs.lemmas.Bool.{cases_lt}
use Rattle.run_definition.specs.Words.{IsWord, signed_of}
use Rattle.mips_definition.specs.Arithmetic.{fitting_word}
use Rattle.emit_simulation_laws.proofs.Signs.{below-zero}

-- the difference as a word
abbrev pub difference : ℕ → ℕ → ℕ
difference a b = (a + (2 ^ 32 - b)) % 2 ^ 32

-- a number that says by its size whether the signs of a and b differ, and that of the difference is not a's
module _ (a b y : ℕ) (ha : a < 2 ^ 32) (hb : b < 2 ^ 32)
    (bit : y / 2 ^ 31 ≡ min ((difference a b / 2 ^ 31 + a / 2 ^ 31) % 2) ((a / 2 ^ 31 + b / 2 ^ 31) % 2)) where
  abbrev tested : Option ℕ
  tested = if not (nat_lt y (2 ^ 31)) then None else Some (difference a b)

  both-low : a < 2 ^ 31 → b < 2 ^ 31 → fitting_word (signed_of a -ℤ signed_of b) ≡ tested
  both-low la lb = grind (arith, ints)

  low-high : a < 2 ^ 31 → 2 ^ 31 ≤ b → fitting_word (signed_of a -ℤ signed_of b) ≡ tested
  low-high la lb = grind (arith, ints)

  high-low : 2 ^ 31 ≤ a → b < 2 ^ 31 → fitting_word (signed_of a -ℤ signed_of b) ≡ tested
  high-low la lb = grind (arith, ints)

  both-high : 2 ^ 31 ≤ a → 2 ^ 31 ≤ b → fitting_word (signed_of a -ℤ signed_of b) ≡ tested
  both-high la lb = grind (arith, ints)

  by-signs : (a < 2 ^ 31) ⊎ (2 ^ 31 ≤ a) → (b < 2 ^ 31) ⊎ (2 ^ 31 ≤ b) → fitting_word (signed_of a -ℤ signed_of b) ≡ tested
  by-signs (inl la) (inl lb) = both-low la lb
  by-signs (inl la) (inr lb) = low-high la lb
  by-signs (inr la) (inl lb) = high-low la lb
  by-signs (inr la) (inr lb) = both-high la lb

  by-high-bit : y < 2 ^ 32 → fitting_word (signed_of a -ℤ signed_of b) ≡ (if int_lt (signed_of y) (pos 0) then None else Some (difference a b))
  by-high-bit hy =
      by-signs (cases_lt a (2 ^ 31)) (cases_lt b (2 ^ 31))
      ∙ sym (ap (λ t. if t then None else Some (difference a b)) (below-zero y hy))

high-bit : (a b d : ℕ) → a < 2 ^ 32 → b < 2 ^ 32 → d < 2 ^ 32
    → bit_and (bit_xor d a) (bit_xor a b) / 2 ^ 31 ≡ min ((d / 2 ^ 31 + a / 2 ^ 31) % 2) ((a / 2 ^ 31 + b / 2 ^ 31) % 2)
high-bit a b d ha hb hd =
    omega (
      arith,
      bit_at_and (bit_xor d a) (bit_xor a b) 31,
      bit_at_xor d a 31,
      bit_at_xor a b 31,
      and_le_l (bit_xor d a) (bit_xor a b),
      xor_of_32 d a hd
          ha,
    )

pub overflow-is : (a b : ℕ) → IsWord a → IsWord b
    → fitting_word (signed_of a -ℤ signed_of b) ≡ (if int_lt (signed_of (bit_and (bit_xor (difference a b) a) (bit_xor a b))) (pos 0) then None else Some
    (difference a b))
overflow-is a b ha hb =
    let d = difference a b in
    let hd : d < 2 ^ 32 = omega arith in
    let y = bit_and (bit_xor d a) (bit_xor a b) in
    let below : y < 2 ^ 32 = omega (arith, and_le_l (bit_xor d a) (bit_xor a b), xor_of_32 d a hd ha) in
    by-high-bit a b y ha hb (high-bit a b d ha hb hd) below
