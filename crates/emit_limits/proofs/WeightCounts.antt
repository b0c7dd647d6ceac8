-- How many of the numbers of a list pass a test.
use Rattle.std.proofs.Common.{◌≡◌, ℕ, zero, suc, ◌+◌, ◌≤◌, ◌<◌, inl, inr, ◌*◌, ◌^◌, Bool, true, false, ◌||◌, ◌==◌, if◌then◌else◌, List, [], ◌∷◌, length, get_or, refl, ap, sym, ◌∙◌, arith}
use Rattle.std.specs.Int.{IsBitSet, bit_at}
use Rattle.std.specs.List.{list_any, range_with_len}
use Rattle.std.proofs.lemmas.Bool.{cases_eq, or_left, or_right, eq-eqb, ne_eqb, eqb-true, true≢false}
use Rattle.std.proofs.lemmas.Nat.{pow_pos}
use Rattle.std.proofs.lemmas.Nat.Bits.{and_pow}
use Rattle.block_builder.specs.Registers.{Register, bit_number, register_set}
use Rattle.block_builder.proofs.SetLemmas.{set_has_bits}
use Rattle.word_emitter.specs.Pieces.{is_in}

abbrev pub one : Bool → ℕ
one b = if b then 1 else 0

abbrev pub count : (ℕ → Bool) → List ℕ → ℕ
count test [] = 0
count test (r ∷ rs) = one (test r) + count test rs

-- ---- tests that follow from others

one-implied : (p q : Bool) → (p ≡ true → q ≡ true) → one p ≤ one q
one-implied false q so = omega arith
one-implied true true so = omega arith
one-implied true false so = absurd (true≢false (sym (so refl)))

pub count-implied : (p q : ℕ → Bool) → ((r : ℕ) → p r ≡ true → q r ≡ true) → (rs : List ℕ) → count p rs ≤ count q rs
count-implied p q so [] = omega arith
count-implied p q so (r ∷ rs) = omega (arith, one-implied (p r) (q r) (so r), count-implied p q so rs)

one-or : (p q : Bool) → one (p || q) ≤ one p + one q
one-or true q = omega arith
one-or false q = omega arith

pub count-or : (p q : ℕ → Bool) (rs : List ℕ) → count (λ r. p r || q r) rs ≤ count p rs + count q rs
count-or p q [] = omega arith
count-or p q (r ∷ rs) = omega (arith, one-or (p r) (q r), count-or p q rs)

pub count-none : (rs : List ℕ) → count (λ r. false) rs ≡ 0
count-none [] = refl
count-none (r ∷ rs) = omega (arith, count-none rs)

-- ---- one number among numbers that rise

above-none : (m start n : ℕ) → m < start → count (λ r. m == r) (range_with_len start n) ≡ 0
above-none m start zero less = refl
above-none m start (suc n) less =
    let other : (m == start) ≡ false = ne_eqb m start (λ e. omega arith) in
    omega (arith, ap one other, above-none m (start + 1) n (omega arith))

count-same : (m start n : ℕ) → count (λ r. m == r) (range_with_len start n) ≤ 1
count-same m start zero = omega arith
count-same m start (suc n) =
    elim (cases_eq m start) [
      | inl same ↦ omega (arith, ap one (eq-eqb m start same), above-none m (start + 1) n (omega arith))
      | inr other ↦ omega (arith, ap one (ne_eqb m start other), count-same m (start + 1) n)
    ]

-- ---- registers

abbrev among : List Register → ℕ → Bool
among registers r = list_any (λ x. bit_number x == r) registers

count-among : (registers : List Register) (start n : ℕ) → count (among registers) (range_with_len start n) ≤ length registers
count-among [] start n = omega (arith, count-none (range_with_len start n))
count-among (x ∷ registers) start n =
    omega (arith, count-or (λ r. bit_number x == r) (among registers) (range_with_len start n), count-same (bit_number x) start n, count-among registers start n)

found-among : (registers : List Register) (r i : ℕ) (d : Register) → i < length registers → get_or registers i d ≡ d → bit_number d ≡ r → among registers r ≡ true
found-among [] r i d h is number = absurd (omega (arith, h))
found-among (x ∷ registers) r zero d h is number =
    or_left (bit_number x == r) (among registers r) (eq-eqb (bit_number x) r (ap bit_number is ∙ number))
found-among (x ∷ registers) r (suc i) d h is number =
    or_right (bit_number x == r) (among registers r) (found-among registers r i d (omega arith) is number)

in-among : (registers : List Register) (r : ℕ) → is_in r registers ≡ true → among registers r ≡ true
in-among registers r is =
    let set = register_set registers in
    let bit : bit_at set r ≡ 1 = eqb-true (bit_at set r) 1 is in
    let has : IsBitSet set r = λ none. omega (arith, none, and_pow set r, ap (λ b. b * 2 ^ r) bit, pow_pos r) in
    let found = (set_has_bits registers r).0 has in
    found-among registers r found.1.0 found.1.1 found.1.2 found.1.3 found.1.4

-- no more numbers are in a set than registers were put into it
pub count-in : (registers : List Register) → count (λ r. is_in r registers) (range_with_len 1 31) ≤ length registers
count-in registers =
    omega (arith, count-implied (λ r. is_in r registers) (among registers) (in-among registers) (range_with_len 1 31), count-among registers 1 31)
