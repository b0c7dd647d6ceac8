-- Elements of lists that are filtered or joined, and lists of numbers that rise.
use Rattle.std.proofs.Common.{◌≡◌, ℕ, zero, suc, ◌+◌, ◌*◌, ◌<◌, ◌≤◌, Bool, true, false, if◌then◌else◌, List, [], ◌∷◌, ◌++◌, map, length, Some, refl, sym, ap, ◌∙◌, slice_get, inl, inr, arith}
use Rattle.std.specs.Prelude.{filter}
use Rattle.std.specs.List.{flat_map, range_with_len}
use Rattle.std.proofs.lemmas.Bool.{cases_Bool}
use Rattle.run_simulation_laws.specs.Places.{Rises}
use Rattle.run_simulation_laws.proofs.Places.{rises_from, rises_join}

-- ---- elements

pub get-left : {X : Type 0} (xs ys : List X) (i : ℕ) (x : X) → slice_get xs i ≡ Some x → slice_get (xs ++ ys) i ≡ Some x
get-left [] ys i x at = absurd cc
get-left (y ∷ xs) ys zero x at = at
get-left (y ∷ xs) ys (suc i) x at = get-left xs ys i x at

pub get-right : {X : Type 0} (xs ys : List X) (i : ℕ) → slice_get (xs ++ ys) (length xs + i) ≡ slice_get ys i
get-right [] ys i = let none : 0 + i ≡ i = omega arith in ap (slice_get ys) none
get-right (x ∷ xs) ys i =
    let next : length (x ∷ xs) + i ≡ suc (length xs + i) = omega arith in
    ap (slice_get ((x ∷ xs) ++ ys)) next ∙ get-right xs ys i

-- what passes a test is kept by it, and what was kept passes it
pub kept : {X : Type 0} (test : X → Bool) (xs : List X) (i : ℕ) (x : X) → slice_get xs i ≡ Some x → test x ≡ true
    → (j : ℕ) × (slice_get (filter test xs) j ≡ Some x)
kept test [] i x at passes = absurd cc
kept test (y ∷ xs) zero x at passes =
    let same : y ≡ x = cc in
    let first : test y ≡ true = ap test same ∙ passes in
    (0, ap (λ b. slice_get (if b then y ∷ filter test xs else filter test xs) 0) first ∙ at)
kept test (y ∷ xs) (suc i) x at passes =
    let rest = kept test xs i x at passes in
    elim (cases_Bool (test y)) [
      | inl is ↦ (suc rest.0, ap (λ b. slice_get (if b then y ∷ filter test xs else filter test xs) (suc rest.0)) is ∙ rest.1)
      | inr fails ↦ (rest.0, ap (λ b. slice_get (if b then y ∷ filter test xs else filter test xs) rest.0) fails ∙ rest.1)
    ]

pub record IsKept {X : Type 0} (test : X → Bool) (xs : List X) (x : X) : Type 0 where
  pub place : ℕ
  pub there : slice_get xs place ≡ Some x
  pub passes : test x ≡ true

next-kept : {X : Type 0} (test : X → Bool) (xs : List X) (y x : X) → IsKept test xs x → IsKept test (y ∷ xs) x
next-kept test xs y x k = record { place = suc k.place; there = k.there; passes = k.passes }

kept-by : {X : Type 0} (test : X → Bool) (y : X) (xs : List X) (j : ℕ) (x : X) (b : Bool) → test y ≡ b
    → ((i : ℕ) → slice_get (filter test xs) i ≡ Some x → IsKept test xs x)
    → slice_get (if b then y ∷ filter test xs else filter test xs) j ≡ Some x → IsKept test (y ∷ xs) x
kept-by test y xs zero x true is more at =
    let same : y ≡ x = cc in record { place = 0; there = at; passes = ap test (sym same) ∙ is }
kept-by test y xs (suc j) x true is more at = next-kept test xs y x (more j at)
kept-by test y xs j x false is more at = next-kept test xs y x (more j at)

pub was-kept : {X : Type 0} (test : X → Bool) (xs : List X) (j : ℕ) (x : X) → slice_get (filter test xs) j ≡ Some x → IsKept test xs x
was-kept test [] j x at = absurd cc
was-kept test (y ∷ xs) j x at = kept-by test y xs j x (test y) refl (λ i found. was-kept test xs i x found) at

-- an element of one of several lists is one of them all
pub joined : {X Y : Type 0} (f : X → List Y) (xs : List X) (i j : ℕ) (x : X) (y : Y) → slice_get xs i ≡ Some x → slice_get (f x) j ≡ Some y
    → (k : ℕ) × (slice_get (flat_map f xs) k ≡ Some y)
joined f [] i j x y at own = absurd cc
joined f (z ∷ xs) zero j x y at own =
    let same : x ≡ z = cc in
    (j, get-left (f z) (flat_map f xs) j y (ap (λ w. slice_get (f w) j) (sym same) ∙ own))
joined f (z ∷ xs) (suc i) j x y at own =
    let rest = joined f xs i j x y at own in
    (length (f z) + rest.0, get-right (f z) (flat_map f xs) rest.0 ∙ rest.1)

-- ---- numbers that rise

rises-low : (low : ℕ) (xs : List ℕ) (high i a : ℕ) → Rises low xs high → slice_get xs i ≡ Some a → low ≤ a
rises-low low [] high i a rises at = absurd cc
rises-low low (x ∷ xs) high zero a rises at = let same : x ≡ a = cc in let first = rises.0 in omega (arith, first, same)
rises-low low (x ∷ xs) high (suc i) a rises at =
    let rest = rises-low (x + 1) xs high i a rises.1 at in let first = rises.0 in omega (arith, first, rest)

pub rises-less : (low : ℕ) (xs : List ℕ) (high i j a b : ℕ) → Rises low xs high → slice_get xs i ≡ Some a → slice_get xs j ≡ Some b → i < j → a < b
rises-less low [] high i j a b rises at at_b less = absurd cc
rises-less low (x ∷ xs) high i zero a b rises at at_b less = absurd (omega (arith, less))
rises-less low (x ∷ xs) high zero (suc j) a b rises at at_b less =
    let same : x ≡ a = cc in
    let rest = rises-low (x + 1) xs high j b rises.1 at_b in
    omega (arith, same, rest)
rises-less low (x ∷ xs) high (suc i) (suc j) a b rises at at_b less =
    rises-less (x + 1) xs high i j a b rises.1 at at_b (omega (arith, less))

pub rises-end : (low : ℕ) (xs : List ℕ) (high higher : ℕ) → high ≤ higher → Rises low xs high → Rises low xs higher
rises-end low [] high higher up rises = omega (arith, up, rises)
rises-end low (x ∷ xs) high higher up rises = (rises.0, rises-end (x + 1) xs high higher up rises.1)

-- those of the lists of numbers from one on
pub flat-rises : (f : ℕ → List ℕ) (low high : ℕ → ℕ) (from end a n : ℕ) → from ≤ end
    → ((j : ℕ) → a ≤ j → j < a + n → Rises (low j) (f j) (high j)) → ((j : ℕ) → a ≤ j → j < a + n → from ≤ low j)
    → ((j : ℕ) → a ≤ j → j < a + n → high j ≤ end)
    → ((i j : ℕ) → a ≤ i → i < j → j < a + n → high i ≤ low j) → Rises from (flat_map f (range_with_len a n)) end
flat-rises f low high from end a zero up each lows highs apart = up
flat-rises f low high from end a (suc n) up each lows highs apart =
    rises_join from (f a) (high a) (flat_map f (range_with_len (a + 1) n)) end
    (rises_from from (low a) (f a) (high a) (lows a (omega arith) (omega arith)) (each a (omega arith) (omega arith)))
    (flat-rises f low high (high a) end (a + 1) n (highs a (omega arith) (omega arith))
    (λ j above below. each j (omega (arith, above)) (omega (arith, below)))
    (λ j above below. apart a j (omega arith) (omega (arith, above)) (omega (arith, below)))
    (λ j above below. highs j (omega (arith, above)) (omega (arith, below)))
    (λ i j above less below. apart i j (omega (arith, above)) less (omega (arith, below))))

-- those of the numbers from one on that pass a test, each by so much more
counted-by : (start a n : ℕ) (xs : List ℕ) (b : Bool) → Rises (start + 4 * (a + 1)) (map (λ k. start + 4 * k) xs) (start + 4 * (a + 1 + n))
    → Rises (start + 4 * a) (map (λ k. start + 4 * k) (if b then a ∷ xs else xs)) (start + 4 * (a + suc n))
counted-by start a n xs true rest =
    let others = map (λ k. start + 4 * k) xs in (
      omega arith,
      rises-end (start + 4 * a + 1) others (start + 4 * (a + 1 + n)) (start + 4 * (a + suc n)) (omega arith)
          (rises_from (start + 4 * a + 1) (start + 4 * (a + 1)) others (start + 4 * (a + 1 + n)) (omega arith) rest),
    )
counted-by start a n xs false rest =
    let others = map (λ k. start + 4 * k) xs in
    rises-end (start + 4 * a) others (start + 4 * (a + 1 + n)) (start + 4 * (a + suc n)) (omega arith)
    (rises_from (start + 4 * a) (start + 4 * (a + 1)) others (start + 4 * (a + 1 + n)) (omega arith) rest)

pub counted-rise : (start : ℕ) (test : ℕ → Bool) (a n : ℕ)
    → Rises (start + 4 * a) (map (λ k. start + 4 * k) (filter test (range_with_len a n))) (start + 4 * (a + n))
counted-rise start test a zero = omega arith
counted-rise start test a (suc n) =
    counted-by start a n (filter test (range_with_len (a + 1) n)) (test a) (counted-rise start test (a + 1) n)
