-- Sums over numbers that follow one another.
use Rattle.std.proofs.Common.{◌≡◌, ℕ, zero, suc, ◌+◌, ◌*◌, ◌<◌, ◌≤◌, Bool, true, false, cond, if◌then◌else◌, List, ◌∷◌, length, map, take, drop, inl, inr, refl, ap, arith}
use Rattle.std.specs.Prelude.{filter, sum_by}
use Rattle.std.specs.List.{flat_map, range_with_len}
use Rattle.std.proofs.lemmas.Bool.{cases_eq, cases_lt}
use Rattle.std.proofs.lemmas.List.{drop_more, drop_all}
use Rattle.std.proofs.lemmas.List.Sums.{sum_by-cons}
use Rattle.delay_slots.specs.declared.unit.Unit.{Unit}
use Rattle.delay_slots.specs.declared.unit.Unit.TheVariants.{Call}
use Rattle.block_builder.specs.Blocks.{unit_at}
use Rattle.emit_steps.specs.declared.step.Step.{Step}
use Rattle.emit_steps.specs.Widths.{size}
use Rattle.emit_spans.proofs.BodyLemmas.{size-append}

-- the sum of f over m numbers from a on
abbrev pub total : (ℕ → ℕ) → ℕ → ℕ → ℕ
total f a zero = 0
total f a (suc m) = f a + total f (a + 1) m

pub total-le : (f g : ℕ → ℕ) (a m : ℕ) → ((k : ℕ) → f k ≤ g k) → total f a m ≤ total g a m
total-le f g a zero less = omega arith
total-le f g a (suc m) less = omega (arith, less a, total-le f g (a + 1) m less)

pub total-plus : (f g : ℕ → ℕ) (a m : ℕ) → total (λ k. f k + g k) a m ≡ total f a m + total g a m
total-plus f g a zero = refl
total-plus f g a (suc m) = omega (arith, total-plus f g (a + 1) m)

pub total-append : (f : ℕ → ℕ) (a m n j : ℕ) → a + m ≡ j → total f a (m + n) ≡ total f a m + total f j n
total-append f a zero n j is =
    let here : a ≡ j = omega arith in
    let all : 0 + n ≡ n = omega arith in
    omega (arith, ap (total f a) all, ap (λ b. total f b n) here)
total-append f a (suc m) n j is =
    let more : suc m + n ≡ suc (m + n) = omega arith in
    omega (arith, ap (total f a) more, total-append f (a + 1) m n j (omega arith))

pub total-none : (f : ℕ → ℕ) (a m : ℕ) → ((k : ℕ) → a ≤ k → k < a + m → f k ≡ 0) → total f a m ≡ 0
total-none f a zero none = refl
total-none f a (suc m) none =
    omega (arith, none a (omega arith) (omega arith), total-none f (a + 1) m (λ k from below. none k (omega arith) (omega arith)))

pub one-of-total : (f : ℕ → ℕ) (a m k : ℕ) → a ≤ k → k < a + m → f k ≤ total f a m
one-of-total f a zero k from below = absurd (omega arith)
one-of-total f a (suc m) k from below =
    elim (cases_eq k a) [
      | inl same ↦ omega (arith, ap f same)
      | inr other ↦ omega (arith, one-of-total f (a + 1) m k (omega arith) (omega arith))
    ]

-- ---- lists

-- the bytes of the code of the numbers that pass a test
pub code-total : (F : ℕ → List Step) (test : ℕ → Bool) (a m : ℕ)
    → size (flat_map F (filter test (range_with_len a m))) ≡ total (λ k. if test k then size (F k) else 0) a m
code-total F test a zero = refl
code-total F test a (suc m) = by_test (test a) (filter test (range_with_len (a + 1) m)) (code-total F test (a + 1) m)
  where
    by_test : (b : Bool) (ks : List ℕ) → size (flat_map F ks) ≡ total (λ k. if test k then size (F k) else 0) (a + 1) m
        → size (flat_map F (cond b (a ∷ ks) ks)) ≡ (if b then size (F a) else 0) + total (λ k. if test k then size (F k) else 0) (a + 1) m
    by_test true ks rest = omega (arith, size-append (F a) (flat_map F ks), rest)
    by_test false ks rest = omega (arith, rest)

-- numbers that weigh so much, and 4 each
pub weight-total : (f : ℕ → ℕ) (a m : ℕ) → sum_by (λ w. 4 + w) (map f (range_with_len a m)) ≡ 4 * m + total f a m
weight-total f a zero = refl
weight-total f a (suc m) = omega (arith, sum_by-cons (λ w. 4 + w) (f a) (map f (range_with_len (a + 1) m)), weight-total f (a + 1) m)

-- the units of some words, of which those behind the last are not there
pub units-total : (g : Unit → ℕ) (units : List Unit) (k n : ℕ) → sum_by g (take n (drop k units)) ≤ total (λ j. g (unit_at units j)) k n
units-total g units k zero = omega arith
units-total g units k (suc n) =
    elim (cases_lt k (length units)) [
      | inl within ↦
          let first : drop k units ≡ unit_at units k ∷ drop (k + 1) units = drop_more units k Call within in
          let taken : sum_by g (take (suc n) (drop k units)) ≡ sum_by g (unit_at units k ∷ take n (drop (k + 1) units)) =
          ap (λ us. sum_by g (take (suc n) us)) first in
          omega (arith, taken, sum_by-cons g (unit_at units k) (take n (drop (k + 1) units)), units-total g units (k + 1) n)
      | inr past ↦
          let none : sum_by g (take (suc n) (drop k units)) ≡ 0 = ap (λ us. sum_by g (take (suc n) us)) (drop_all k units past) in
          omega (arith, none)
    ]
