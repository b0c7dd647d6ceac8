-- Where the switch of a span goes, by the address in field pc.
use Rattle.std.proofs.Common.{◌≡◌, ℕ, suc, ◌+◌, ◌-◌, ◌*◌, ◌/◌, ◌%◌, ◌^◌, ◌<◌, ◌≤◌, ◌==◌, ◌&&◌, ℤ, pos, negsuc, ◌-ℤ◌, int_lt, bit_or, true, false, nat_lt, nat_le, if◌then◌else◌, inl, inr, ap, sym, ◌∙◌, refl, arith}
use Rattle.std.proofs.lemmas.Bool.{lt-ltb, le-ltb, cases_lt, le-leb, eq-eqb, cases_eq, true≢false}
use Rattle.std.proofs.lemmas.Nat.{le_or_r}
use Rattle.std.specs.Int.Bits.{or_zero_r, or_add_and}
use Rattle.std.proofs.lemmas.Int.{ints}
use Rattle.run_definition.specs.Words.{signed_of}
use Rattle.jvm_definition.specs.Effect.{table_target}

-- how far an address is behind another one, as a word
abbrev pub distance : ℕ → ℕ → ℕ
distance first a = (a + (2 ^ 32 - first)) % 2 ^ 32

-- a word that is turned to the right by two bits
abbrev pub turned : ℕ → ℕ
turned d = bit_or (d / 4) (d * 2 ^ 30 % 2 ^ 32)

pub turned-multiple : (d : ℕ) → d % 4 ≡ 0 → turned d ≡ d / 4
turned-multiple d is =
    let none : d * 2 ^ 30 % 2 ^ 32 ≡ 0 = omega (arith, is) in
    ap (bit_or (d / 4)) none ∙ or_zero_r (d / 4)

pub turned-other : (d : ℕ) → 1 ≤ d % 4 → 2 ^ 30 ≤ turned d
turned-other d some =
    let high : 2 ^ 30 ≤ d * 2 ^ 30 % 2 ^ 32 = omega (arith, some) in
    let more = le_or_r (d / 4) (d * 2 ^ 30 % 2 ^ 32) in
    omega (arith, high, more)

pub turned-word : (d : ℕ) → d < 2 ^ 32 → turned d < 2 ^ 32
turned-word d word =
    let sum = or_add_and (d / 4) (d * 2 ^ 30 % 2 ^ 32) in
    let high : d * 2 ^ 30 % 2 ^ 32 ≤ 3 * 2 ^ 30 = omega arith in
    omega (arith, sum, high, word)

-- ---- the number of the target

low-number : (i : ℕ) → i < 2 ^ 31 → signed_of i -ℤ pos 0 ≡ pos i
low-number i low = grind (arith, ints)

high-number : (i : ℕ) → 2 ^ 31 ≤ i → i < 2 ^ 32 → int_lt (signed_of i -ℤ pos 0) (pos 0) ≡ true
high-number i high word = grind (arith, ints)

negative : (z : ℤ) (n : ℕ) → int_lt z (pos 0) ≡ true → table_target z n ≡ 0
negative (pos i) n less = let no : int_lt (pos i) (pos 0) ≡ false = grind (arith, ints) in absurd (true≢false (sym less ∙ no))
negative (negsuc i) n less = refl

pub number-within : (i n : ℕ) → i < n → n ≤ 2 ^ 29 → table_target (signed_of i -ℤ pos 0) n ≡ suc i
number-within i n less few =
    let low : i < 2 ^ 31 = omega (arith, less, few) in
    ap (λ z. table_target z n) (low-number i low) ∙ ap (λ b. if b then suc i else 0) (lt-ltb i n less)

pub number-outside : (i n : ℕ) → n ≤ i → i < 2 ^ 32 → table_target (signed_of i -ℤ pos 0) n ≡ 0
number-outside i n more word = elim (cases_lt i (2 ^ 31)) [
  | inl low ↦ ap (λ z. table_target z n) (low-number i low) ∙ ap (λ b. if b then suc i else 0) (le-ltb i n more)
  | inr high ↦ negative (signed_of i -ℤ pos 0) n (high-number i high word)
]

-- ---- the address of a word, and another one

pub index-of-word : (first a j : ℕ) → a ≡ first + 4 * j → a < 2 ^ 32 → turned (distance first a) ≡ j
index-of-word first a j is word =
    let d : distance first a ≡ 4 * j = omega (arith, is, word) in
    let multiple : distance first a % 4 ≡ 0 = omega (arith, d) in
    let quarter : distance first a / 4 ≡ j = omega (arith, d) in
    turned-multiple (distance first a) multiple ∙ quarter

-- no word stands there
abbrev IsOutside : ℕ → ℕ → ℕ → Type 0
IsOutside first end a = (nat_le first a && nat_lt a end && a % 4 == first % 4) ≡ false

pub index-of-other : (first a n : ℕ) → first + 4 * n ≤ 2 ^ 31 → a < 2 ^ 32 → IsOutside first (first + 4 * n) a → n ≤ turned (distance first a)
index-of-other first a n few word outside = elim (cases_eq (distance first a % 4) 0) [
  | inr odd ↦
      let some : 1 ≤ distance first a % 4 = omega (arith, odd) in
      let high = turned-other (distance first a) some in
      omega (arith, high, few)
  | inl even ↦
      let quarter = turned-multiple (distance first a) even in
      let like : a % 4 ≡ first % 4 = omega (arith, even, few, word) in
      elim (cases_lt a first) [
        | inr above ↦ elim (cases_lt a (first + 4 * n)) [
          | inl below ↦
              let there : (nat_le first a && nat_lt a (first + 4 * n) && a % 4 == first % 4)
              ≡ true = ap (λ b. b && nat_lt a (first + 4 * n) && a % 4 == first % 4) (le-leb first a above)
              ∙ ap (λ b. b && a % 4 == first % 4) (lt-ltb a (first + 4 * n) below) ∙ eq-eqb (a % 4) (first % 4) like in
              absurd (true≢false (sym there ∙ outside))
          | inr behind ↦
              let far : 4 * n ≤ distance first a = omega (arith, above, behind, word) in
              omega (arith, quarter, far)
        ]
        | inl before ↦
            let far : 2 ^ 31 ≤ distance first a = omega (arith, before, few, word) in
            omega (arith, quarter, far, few)
      ]
]
