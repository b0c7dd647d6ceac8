-- Sets of registers as numbers: their unions and their bits.
use Rattle.std.proofs.Common.{◌≡◌, ℕ, zero, suc, ◌+◌, ◌*◌, ◌^◌, ◌<◌, ◌≤◌, ◌==◌, ◌↔◌, if◌then◌else◌, false, max, List, [], ◌∷◌, ◌++◌, length, get_or, drop, refl, sym, ap, ◌∙◌, inl, inr, arith}
use Rattle.std.specs.Prelude.{fold, bit_or, bit_and, Any}
use Rattle.std.specs.List.{flat_map}
use Rattle.std.specs.Int.{IsBitSet, bit_at}
use Rattle.std.specs.Int.Bits.{or_zero_r}
use Rattle.std.proofs.lemmas.Bool.{cases_eq, eq-eqb, ne_eqb}
use Rattle.std.proofs.lemmas.Grind.{fold-append}
use Rattle.std.proofs.lemmas.List.{drop_more, drop_all}
use Rattle.std.proofs.lemmas.Nat.{pow_pos}
use Rattle.std.proofs.lemmas.Nat.Bits.{and_pow, bit_at-lt, bit_at-zero, bit_at_or, bit_at-pow_same, bit_at-pow_other, same_from_bits}
use Rattle.block_builder.specs.Registers.{Register, bit_number, register_bit, register_set}

-- ---- unions

or_assoc : (a b c : ℕ) → bit_or (bit_or a b) c ≡ bit_or a (bit_or b c)
or_assoc a b c =
    same_from_bits (bit_or (bit_or a b) c) (bit_or a (bit_or b c))
    (λ i. omega (arith, bit_at_or (bit_or a b) c i, bit_at_or a b i, bit_at_or a (bit_or b c) i, bit_at_or b c i))

abbrev with_register : ℕ → Register → ℕ
with_register set r = bit_or set (register_bit r)

-- registers added to a set
set_from : (n : ℕ) (rs : List Register) → fold with_register n rs ≡ bit_or n (register_set rs)
set_from n [] = sym (or_zero_r n)
set_from n (r ∷ rs) =
    set_from (bit_or n (register_bit r)) rs ∙ or_assoc n (register_bit r) (register_set rs) ∙ ap (bit_or n) (sym (set_from (register_bit r) rs))

pub register_set-append : (rs qs : List Register) → register_set (rs ++ qs) ≡ bit_or (register_set rs) (register_set qs)
register_set-append rs qs = fold-append with_register 0 rs qs ∙ set_from (register_set rs) qs

-- the registers of what is left of a list, and those so far, are all of them
pub union_more : {X : Type 0} (f : X → List Register) (xs : List X) (i : ℕ) (d : X) (sofar all : ℕ) → i < length xs
    → bit_or sofar (register_set (flat_map f (drop i xs))) ≡ all
    → bit_or (bit_or sofar (register_set (f (get_or xs i d)))) (register_set (flat_map f (drop (i + 1) xs))) ≡ all
union_more f xs i d sofar all lt so =
    let x = get_or xs i d in
    let rest = drop (i + 1) xs in
    or_assoc sofar (register_set (f x)) (register_set (flat_map f rest))
    ∙ ap (bit_or sofar) (sym (register_set-append (f x) (flat_map f rest)))
    ∙ ap (λ ys. bit_or sofar (register_set (flat_map f ys))) (sym (drop_more xs i d lt))
    ∙ so

pub union_all : {X : Type 0} (f : X → List Register) (xs : List X) (i sofar all : ℕ) → length xs ≤ i
    → bit_or sofar (register_set (flat_map f (drop i xs))) ≡ all → sofar ≡ all
union_all f xs i sofar all le so =
    sym (or_zero_r sofar) ∙ ap (λ ys. bit_or sofar (register_set (flat_map f ys))) (sym (drop_all i xs le)) ∙ so

-- ---- bits

bit_is_set : (n k : ℕ) → bit_at n k ≡ 1 → IsBitSet n k
bit_is_set n k one = λ none. omega (arith, none, and_pow n k, ap (λ b. b * 2 ^ k) one, pow_pos k)

set_bit : (n k : ℕ) → IsBitSet n k → bit_at n k ≡ 1
set_bit n k is =
    elim (cases_eq (bit_at n k) 0) [
      | inl off ↦
          let none : bit_and n (2 ^ k) ≡ 0 = omega (arith, and_pow n k, ap (λ b. b * 2 ^ k) off) in
          absurd (is none)
      | inr other ↦ omega (arith, bit_at-lt n k, other)
    ]

-- a power of two has its own bit alone, and bit 0 is left out
own_bit : (n k : ℕ) → n ≡ k → 0 < k → bit_at (if n == 0 then 0 else 2 ^ n) k ≡ 1
own_bit n k same positive =
    let other : (n == 0) ≡ false = ne_eqb n 0 (λ nothing. omega arith) in
    rw other (ap (λ m. bit_at (2 ^ m) k) same ∙ bit_at-pow_same k)

only_bit : (n k : ℕ) → bit_at (if n == 0 then 0 else 2 ^ n) k ≡ 1 → (0 < k) × (n ≡ k)
only_bit n k one =
    elim (cases_eq n 0) [
      | inl nothing ↦
          let h = rw (eq-eqb n 0 nothing) at one in
          absurd (omega (arith, h, bit_at-zero k))
      | inr some ↦
          let h = rw (ne_eqb n 0 some) at one in
          elim (cases_eq k n) [
            | inl same ↦ (omega arith, sym same)
            | inr other ↦ absurd (omega (arith, h, bit_at-pow_other n k other))
          ]
    ]

-- the bits of one register more
bits_more : (r : Register) (rs : List Register) (k : ℕ) → bit_at (register_set (r ∷ rs)) k ≡ max (bit_at (register_bit r) k) (bit_at (register_set rs) k)
bits_more r rs k = ap (λ n. bit_at n k) (set_from (register_bit r) rs) ∙ bit_at_or (register_bit r) (register_set rs) k

bit_of_member : (rs : List Register) (k i : ℕ) (r : Register) → 0 < k → i < length rs → get_or rs i r ≡ r → bit_number r ≡ k → bit_at (register_set rs) k ≡ 1
bit_of_member [] k i r positive lt is number = absurd (omega arith)
bit_of_member (q ∷ rs) k zero r positive lt is number =
    omega (arith, bits_more q rs k, own_bit (bit_number q) k (ap bit_number is ∙ number) positive, bit_at-lt (register_set rs) k)
bit_of_member (q ∷ rs) k (suc i) r positive lt is number =
    omega (arith, bits_more q rs k, bit_of_member rs k i r positive (omega arith) is number, bit_at-lt (register_bit q) k)

member_of_bit : (rs : List Register) (k : ℕ) → bit_at (register_set rs) k ≡ 1 → (0 < k) × Any (λ r. bit_number r ≡ k) rs
member_of_bit [] k one = absurd (omega (arith, one, bit_at-zero k))
member_of_bit (r ∷ rs) k one =
    elim (cases_eq (bit_at (register_bit r) k) 1) [
      | inl own ↦
          let is : (0 < k) × (bit_number r ≡ k) = only_bit (bit_number r) k own in
          (is.0, (0, r, omega arith, refl, is.1))
      | inr other ↦
          let later : bit_at (register_set rs) k ≡ 1 = omega (arith, one, other, bits_more r rs k, bit_at-lt (register_bit r) k, bit_at-lt (register_set rs) k) in
          let found : (0 < k) × Any (λ r. bit_number r ≡ k) rs = member_of_bit rs k later in
          (found.0, (suc found.1.0, found.1.1, omega (arith, found.1.2), found.1.3, found.1.4))
    ]

pub set_has_bits : (rs : List Register) (k : ℕ) → IsBitSet (register_set rs) k ↔ ((0 < k) × Any (λ r. bit_number r ≡ k) rs)
set_has_bits rs k = (
  λ is. member_of_bit rs k (set_bit (register_set rs) k is),
  λ found. bit_is_set (register_set rs) k (bit_of_member rs k found.1.0 found.1.1 found.0 found.1.2 found.1.3 found.1.4),
)
