-- Lists whose elements all pass a test.
use Rattle.std.proofs.Common.{◌≡◌, ℕ, zero, suc, ◌+◌, ◌<◌, Bool, true, List, ◌∷◌, ◌++◌, map, flat_map, refl, ◌∙◌, arith}
use Rattle.std.specs.List.{list_all, range_with_len}
use Rattle.std.proofs.lemmas.Bool.{and_from}
use Rattle.std.proofs.lemmas.List.Folds.{list_all-append}

module _ {X : Type 0} (test : X → Bool) where
  pub pass-more : (x : X) (xs : List X) → test x ≡ true → list_all test xs ≡ true → list_all test (x ∷ xs) ≡ true
  pass-more x xs first others = and_from (test x) (list_all test xs) first others

  pub pass-joined : (xs ys : List X) → list_all test xs ≡ true → list_all test ys ≡ true → list_all test (xs ++ ys) ≡ true
  pass-joined xs ys front behind = list_all-append test xs ys ∙ and_from (list_all test xs) (list_all test ys) front behind

  -- what is made of numbers
  pub pass-range : (f : ℕ → X) (a n : ℕ) → ((k : ℕ) → k < a + n → test (f k) ≡ true) → list_all test (map f (range_with_len a n)) ≡ true
  pass-range f a zero each = refl
  pass-range f a (suc n) each =
      pass-more (f a) (map f (range_with_len (a + 1) n)) (each a (omega arith)) (pass-range f (a + 1) n (λ k below. each k (omega (arith, below))))

  pub pass-ranges : (f : ℕ → List X) (a n : ℕ) → ((k : ℕ) → k < a + n → list_all test (f k) ≡ true)
      → list_all test (flat_map f (range_with_len a n)) ≡ true
  pass-ranges f a zero each = refl
  pass-ranges f a (suc n) each =
      pass-joined (f a) (flat_map f (range_with_len (a + 1) n)) (each a (omega arith))
      (pass-ranges f (a + 1) n (λ k below. each k (omega (arith, below))))
