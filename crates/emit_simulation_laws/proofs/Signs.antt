-- Words and their two's complement numbers.
use Rattle.std.proofs.Common.{◌≡◌, ℕ, suc, ◌+◌, ◌-◌, ◌/◌, ◌%◌, ◌^◌, ◌<◌, ◌≤◌, min, ◌==◌, ℤ, pos, negsuc, ◌+ℤ◌, int_lt, bit_and, bit_xor, nat_lt, not, Option, true, if◌then◌else◌, Some, None, ◌⊎◌, inl, inr, refl, ap, sym, ◌∙◌, arith}
use Rattle.std.proofs.lemmas.Int.{ints}
use Rattle.std.proofs.lemmas.Nat.{and_le_l, xor_of_32}
use Rattle.std.proofs.lemmas.Nat.Bits.{bit_at_and, bit_at_xor}
use Rattle.std.proofs.lemmas.Bool.{lt-ltb, le-ltb, cases_lt, eq-eqb, ne_eqb, eqb-true, cases_eq, false_from_ne_true}
use Rattle.run_definition.specs.Words.{IsWord, signed_of, unsigned_of}
use Rattle.nv_words.proofs.LaneLemmas.{unsigned_of-signed_of}
use Rattle.jvm_definition.specs.Effect.{same_integer}
use Rattle.mips_definition.specs.Arithmetic.{fitting_word}

same-refl : (z : ℤ) → same_integer z z ≡ true
same-refl (pos n) = eq-eqb n n refl
same-refl (negsuc n) = eq-eqb n n refl

same-true : (x y : ℤ) → same_integer x y ≡ true → x ≡ y
same-true (pos a) (pos b) e = ap pos (eqb-true a b e)
same-true (pos a) (negsuc b) e = cc
same-true (negsuc a) (pos b) e = cc
same-true (negsuc a) (negsuc b) e = ap negsuc (eqb-true a b e)

-- two words are the same where their numbers are
pub same-signed : (a b : ℕ) → IsWord a → IsWord b → same_integer (signed_of a) (signed_of b) ≡ (a == b)
same-signed a b ha hb = by_cases (cases_eq a b)
  where
    by_cases : (a ≡ b) ⊎ (a ≡ b → ⊥) → same_integer (signed_of a) (signed_of b) ≡ (a == b)
    by_cases (inl e) = ap (λ x. same_integer (signed_of a) (signed_of x)) (sym e) ∙ same-refl (signed_of a) ∙ sym (eq-eqb a b e)
    by_cases (inr ne) =
        false_from_ne_true (same_integer (signed_of a) (signed_of b)) (λ e. ne (sym (unsigned_of-signed_of a ha) ∙ ap unsigned_of (same-true (signed_of a) (signed_of b) e) ∙ unsigned_of-signed_of b hb))
        ∙ sym (ne_eqb a b ne)

-- ---- overflow

signed-positive : (w : ℕ) → w < 2 ^ 31 → signed_of w ≡ pos w
signed-positive w h = grind (arith, ints)

signed-negative : (w : ℕ) → 2 ^ 31 ≤ w → w < 2 ^ 32 → signed_of w ≡ negsuc (2 ^ 32 - suc w)
signed-negative w low high = grind (arith, ints)

high-bit : (a b s : ℕ) → a < 2 ^ 32 → b < 2 ^ 32 → s < 2 ^ 32 → bit_and (bit_xor s a) (bit_xor s b) / 2 ^ 31 ≡ min ((s / 2 ^ 31 + a / 2 ^ 31) % 2) ((s / 2 ^ 31 + b / 2 ^ 31) % 2)
high-bit a b s ha hb hs =
    omega (arith, bit_at_and (bit_xor s a) (bit_xor s b) 31, bit_at_xor s a 31, bit_at_xor s b 31, and_le_l (bit_xor s a) (bit_xor s b), xor_of_32 s a hs ha)

pub below-zero : (w : ℕ) → w < 2 ^ 32 → int_lt (signed_of w) (pos 0) ≡ not (nat_lt w (2 ^ 31))
below-zero w high = grind (arith, ints)

-- sums by the signs of the summands
small-sum : (a b : ℕ) → a + b < 2 ^ 31 → fitting_word (pos a +ℤ pos b) ≡ Some ((a + b) % 2 ^ 32)
small-sum a b h = grind (arith, ints)

large-sum : (a b : ℕ) → 2 ^ 31 ≤ a + b → fitting_word (pos a +ℤ pos b) ≡ None
large-sum a b h = grind (arith, ints)

mixed-sum : (a b : ℕ) → a < 2 ^ 31 → 2 ^ 31 ≤ b → b < 2 ^ 32 → fitting_word (pos a +ℤ negsuc (2 ^ 32 - suc b)) ≡ Some ((a + b) % 2 ^ 32)
mixed-sum a b ha hb hc = grind (arith, ints)

turned-sum : (a b : ℕ) → b < 2 ^ 31 → 2 ^ 31 ≤ a → a < 2 ^ 32 → fitting_word (negsuc (2 ^ 32 - suc a) +ℤ pos b) ≡ Some ((a + b) % 2 ^ 32)
turned-sum a b ha hb hc = grind (arith, ints)

high-sum : (a b : ℕ) → a < 2 ^ 32 → b < 2 ^ 32 → 2 ^ 32 + 2 ^ 31 ≤ a + b → fitting_word (negsuc (2 ^ 32 - suc a) +ℤ negsuc (2 ^ 32 - suc b)) ≡ Some ((a + b) % 2 ^ 32)
high-sum a b ha hb h = grind (arith, ints)

low-sum : (a b : ℕ) → a < 2 ^ 32 → b < 2 ^ 32 → a + b < 2 ^ 32 + 2 ^ 31 → fitting_word (negsuc (2 ^ 32 - suc a) +ℤ negsuc (2 ^ 32 - suc b)) ≡ None
low-sum a b ha hb h = grind (arith, ints)

no-overflow : (y s : ℕ) → y < 2 ^ 31 → Some s ≡ (if not (nat_lt y (2 ^ 31)) then None else Some s)
no-overflow y s h = sym (ap (λ t. if not t then None else Some s) (lt-ltb y (2 ^ 31) h))

is-overflow : (y s : ℕ) → 2 ^ 31 ≤ y → None ≡ (if not (nat_lt y (2 ^ 31)) then None else Some s)
is-overflow y s h = sym (ap (λ t. if not t then None else Some s) (le-ltb y (2 ^ 31) h))

-- a word whose highest bit says whether both summands have another sign than the sum
module _ (a b y : ℕ) (ha : a < 2 ^ 32) (hb : b < 2 ^ 32) (bit : y / 2 ^ 31 ≡ min (((a + b) % 2 ^ 32 / 2 ^ 31 + a / 2 ^ 31) % 2) (((a + b) % 2 ^ 32 / 2 ^ 31 + b / 2 ^ 31) % 2)) where
  abbrev tested : Option ℕ
  tested = if not (nat_lt y (2 ^ 31)) then None else Some ((a + b) % 2 ^ 32)

  positive : a < 2 ^ 31 → b < 2 ^ 31 → fitting_word (pos a +ℤ pos b) ≡ tested
  positive la lb = elim (cases_lt (a + b) (2 ^ 31)) [
    | inl l ↦ small-sum a b l ∙ no-overflow y ((a + b) % 2 ^ 32) (omega arith)
    | inr h ↦ large-sum a b h ∙ is-overflow y ((a + b) % 2 ^ 32) (omega arith)
  ]

  negative : 2 ^ 31 ≤ a → 2 ^ 31 ≤ b → fitting_word (negsuc (2 ^ 32 - suc a) +ℤ negsuc (2 ^ 32 - suc b)) ≡ tested
  negative la lb = elim (cases_lt (a + b) (2 ^ 32 + 2 ^ 31)) [
    | inl l ↦ low-sum a b ha hb l ∙ is-overflow y ((a + b) % 2 ^ 32) (omega arith)
    | inr h ↦ high-sum a b ha hb h ∙ no-overflow y ((a + b) % 2 ^ 32) (omega arith)
  ]

  by-signs : (a < 2 ^ 31) ⊎ (2 ^ 31 ≤ a) → (b < 2 ^ 31) ⊎ (2 ^ 31 ≤ b) → fitting_word (signed_of a +ℤ signed_of b) ≡ tested
  by-signs (inl la) (inl lb) =
      ap (λ x. fitting_word (x +ℤ signed_of b)) (signed-positive a la)
      ∙ ap (λ x. fitting_word (pos a +ℤ x)) (signed-positive b lb)
      ∙ positive la lb
  by-signs (inl la) (inr lb) =
      ap (λ x. fitting_word (x +ℤ signed_of b)) (signed-positive a la)
      ∙ ap (λ x. fitting_word (pos a +ℤ x)) (signed-negative b lb hb)
      ∙ mixed-sum a b la lb hb
      ∙ no-overflow y ((a + b) % 2 ^ 32) (omega arith)
  by-signs (inr la) (inl lb) =
      ap (λ x. fitting_word (x +ℤ signed_of b)) (signed-negative a la ha)
      ∙ ap (λ x. fitting_word (negsuc (2 ^ 32 - suc a) +ℤ x)) (signed-positive b lb)
      ∙ turned-sum a b lb la ha
      ∙ no-overflow y ((a + b) % 2 ^ 32) (omega arith)
  by-signs (inr la) (inr lb) =
      ap (λ x. fitting_word (x +ℤ signed_of b)) (signed-negative a la ha)
      ∙ ap (λ x. fitting_word (negsuc (2 ^ 32 - suc a) +ℤ x)) (signed-negative b lb hb)
      ∙ negative la lb

  by-high-bit : y < 2 ^ 32 → fitting_word (signed_of a +ℤ signed_of b) ≡ (if int_lt (signed_of y) (pos 0) then None else Some ((a + b) % 2 ^ 32))
  by-high-bit hy =
      by-signs (cases_lt a (2 ^ 31)) (cases_lt b (2 ^ 31))
      ∙ sym (ap (λ t. if t then None else Some ((a + b) % 2 ^ 32)) (below-zero y hy))

pub overflow-is : (a b : ℕ) → IsWord a → IsWord b → fitting_word (signed_of a +ℤ signed_of b) ≡ (if int_lt (signed_of (bit_and (bit_xor ((a + b) % 2 ^ 32) a) (bit_xor ((a + b) % 2 ^ 32) b))) (pos 0) then None else Some ((a + b) % 2 ^ 32))
overflow-is a b ha hb =
    let s = (a + b) % 2 ^ 32 in
    let hs : s < 2 ^ 32 = omega arith in
    let y = bit_and (bit_xor s a) (bit_xor s b) in
    let below : y < 2 ^ 32 = omega (arith, and_le_l (bit_xor s a) (bit_xor s b), xor_of_32 s a hs ha) in
    by-high-bit a b y ha hb (high-bit a b s ha hb hs) below
