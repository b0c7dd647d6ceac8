-- Counting and searching the numbers below a limit, one more at a time.
use Rattle.std.proofs.Common.{◌≡◌, ℕ, zero, suc, ◌+◌, ◌<◌, ◌≤◌, Bool, true, false, Some, None, refl, sym, ap, ◌∙◌, ◌⊎◌, inl, inr, arith, add-one}
use Rattle.elf_definition.specs.Check.{least_below}
use Rattle.elf_definition.specs.Pages.{count_below}

pub count_none : (test : ℕ → Bool) → count_below test 0 ≡ 0
unfolding count_below
count_none test = refl

pub count_more : (test : ℕ → Bool) (n : ℕ) → test n ≡ true → count_below test (n + 1) ≡ count_below test n + 1
unfolding count_below
count_more test n on = rw add-one (rw on refl)

pub count_same : (test : ℕ → Bool) (n : ℕ) → test n ≡ false → count_below test (n + 1) ≡ count_below test n
unfolding count_below
count_same test n off = rw add-one (rw off (omega arith))

pub least_none : (test : ℕ → Bool) → least_below test 0 ≡ None
unfolding least_below
least_none test = refl

pub least_more : (test : ℕ → Bool) (n : ℕ) → least_below test n ≡ None → test n ≡ false → least_below test (n + 1) ≡ None
unfolding least_below
least_more test n none off = rw add-one (rw none (rw off refl))

pub least_found : (test : ℕ → Bool) (n m : ℕ) → least_below test n ≡ None → test n ≡ true → n < m → least_below test m ≡ Some n
unfolding least_below
least_found test n zero none on within = absurd (omega (arith, within))
least_found test n (suc m) none on within =
    elim (split n m within) [
      | inl lt ↦ rw (least_found test n m none on lt) refl
      | inr same ↦ rw (← same) (rw none (rw on refl))
    ]
  where
    split : (n m : ℕ) → n < suc m → (n < m) ⊎ (n ≡ m)
    split n m h = grind arith

pub least_past : (test : ℕ → Bool) (n m : ℕ) → least_below test n ≡ None → n ≤ m → ((p : ℕ) → n ≤ p → p < m → test p ≡ false) → least_below test m ≡ None
unfolding least_below
least_past test n zero none within off = refl
least_past test n (suc m) none within off =
    elim (split n m within) [
      | inl le ↦ rw (least_past test n m none le (λ p ge lt. off p ge (omega (arith, lt)))) (rw (off m le (omega arith)) refl)
      | inr same ↦ ap (least_below test) (sym same) ∙ none
    ]
  where
    split : (n m : ℕ) → n ≤ suc m → (n ≤ m) ⊎ (n ≡ suc m)
    split n m h = grind arith

pub least_stays : (test : ℕ → Bool) (n m k : ℕ) → least_below test n ≡ Some k → n ≤ m → least_below test m ≡ Some k
unfolding least_below
least_stays test n zero k some within = ap (least_below test) (let same : 0 ≡ n = omega (arith, within) in same) ∙ some
least_stays test n (suc m) k some within =
    elim (split n m within) [
      | inl le ↦ rw (least_stays test n m k some le) refl
      | inr same ↦ ap (least_below test) (sym same) ∙ some
    ]
  where
    split : (n m : ℕ) → n ≤ suc m → (n ≤ m) ⊎ (n ≡ suc m)
    split n m h = grind arith

-- no number past those that are counted passes
pub count_past : (test : ℕ → Bool) (n m : ℕ) → n ≤ m → ((p : ℕ) → n ≤ p → test p ≡ false) → count_below test n ≡ count_below test m
unfolding count_below
count_past test n zero within off = ap (count_below test) (let same : n ≡ 0 = omega (arith, within) in same)
count_past test n (suc m) within off =
    elim (split n m within) [
      | inl le ↦ rw (off m le) (let same = count_past test n m le off in omega (arith, same))
      | inr same ↦ ap (count_below test) same
    ]
  where
    split : (n m : ℕ) → n ≤ suc m → (n ≤ m) ⊎ (n ≡ suc m)
    split n m h = grind arith
