-- Elements of lists by their numbers.
use Rattle.std.proofs.Common.{◌≡◌, ℕ, zero, suc, ◌+◌, ◌<◌, List, [], ◌∷◌, ◌++◌, map, length, Some, refl, sym, ap, ◌∙◌, slice_get, get_or, ◌⊎◌, inl, inr, arith, subst}
use Rattle.std.specs.Prelude.{option_map}
use Rattle.std.specs.List.{All, AllZip, range_with_len}
use Rattle.std.proofs.lemmas.List.{length-map}
use Rattle.std.proofs.lemmas.List.FromFn.{length-range_with_len}
use Rattle.std.proofs.lemmas.Option.{slice_get-map, slice_get_within, slice_get-get_or}

-- ---- lists side by side

-- the element beside one of the second list, and beside one of the first
pub zip-second : {A B : Type 0} (R : A → B → Type 0) (xs : List A) (ys : List B) (k : ℕ) (y : B) → AllZip R xs ys → slice_get ys k ≡ Some y
    → (x : A) × (slice_get xs k ≡ Some x) × R x y
zip-second R [] [] k y all e = absurd cc
zip-second R [] (z ∷ ys) k y all e = absurd all
zip-second R (x ∷ xs) [] k y all e = absurd all
zip-second R (x ∷ xs) (z ∷ ys) zero y all e = let one : z ≡ y = cc in (x, refl, subst (R x) one all.0)
zip-second R (x ∷ xs) (z ∷ ys) (suc k) y all e = zip-second R xs ys k y all.1 e

pub zip-first : {A B : Type 0} (R : A → B → Type 0) (xs : List A) (ys : List B) (k : ℕ) (x : A) → AllZip R xs ys → slice_get xs k ≡ Some x
    → (y : B) × (slice_get ys k ≡ Some y) × R x y
zip-first R [] [] k x all e = absurd cc
zip-first R [] (y ∷ ys) k x all e = absurd all
zip-first R (z ∷ xs) [] k x all e = absurd all
zip-first R (z ∷ xs) (y ∷ ys) zero x all e = let one : z ≡ x = cc in (y, refl, subst (λ w. R w y) one all.0)
zip-first R (z ∷ xs) (y ∷ ys) (suc k) x all e = zip-first R xs ys k x all.1 e

pub zip-mapped : {A B C : Type 0} (f : A → C) (g : B → C) (xs : List A) (ys : List B) → AllZip (λ x y. f x ≡ g y) xs ys → map f xs ≡ map g ys
zip-mapped f g [] [] all = refl
zip-mapped f g [] (y ∷ ys) all = absurd all
zip-mapped f g (x ∷ xs) [] all = absurd all
zip-mapped f g (x ∷ xs) (y ∷ ys) all = λ i. all.0 i ∷ zip-mapped f g xs ys all.1 i

-- what an element of a list was mapped from
pub mapped-from : {A B : Type 0} (f : A → B) (xs : List A) (k : ℕ) (y : B) → slice_get (map f xs) k ≡ Some y
    → (x : A) × (slice_get xs k ≡ Some x) × (f x ≡ y)
mapped-from f [] k y e = absurd cc
mapped-from f (x ∷ xs) zero y e = (x, refl, cc)
mapped-from f (x ∷ xs) (suc k) y e = mapped-from f xs k y e

-- what holds of each element by its number
pub all-got : {A : Type 0} (P : A → Type 0) (xs : List A) → ((k : ℕ) (x : A) → slice_get xs k ≡ Some x → P x) → All P xs
all-got P xs each k d within = each k (get_or xs k d) (slice_get-get_or xs k d within)

-- ---- ranges of numbers

pub range-get : (a n k : ℕ) → k < n → slice_get (range_with_len a n) k ≡ Some (a + k)
range-get a zero k below = absurd (omega (arith, below))
range-get a (suc n) zero below = let none : a ≡ a + 0 = omega arith in ap (λ j. Some j) none
range-get a (suc n) (suc k) below =
    let same : a + 1 + k ≡ a + suc k = omega arith in
    range-get (a + 1) n k (omega arith) ∙ ap (λ j. Some j) same

pub range-first : (n k : ℕ) → k < n → slice_get (range_with_len 0 n) k ≡ Some k
range-first n k below = let none : 0 + k ≡ k = omega arith in range-get 0 n k below ∙ ap (λ j. Some j) none

pub mapped-get : {A : Type 0} (f : ℕ → A) (n k : ℕ) → k < n → slice_get (map f (range_with_len 0 n)) k ≡ Some (f k)
mapped-get f n k below = slice_get-map f (range_with_len 0 n) k ∙ ap (option_map f) (range-first n k below)

pub range-below : (n k j : ℕ) → slice_get (range_with_len 0 n) k ≡ Some j → k < n
range-below n k j e = omega (arith, slice_get_within (range_with_len 0 n) k j e, length-range_with_len 0 n)

pub range-member : (n k j : ℕ) → slice_get (range_with_len 0 n) k ≡ Some j → j < n
range-member n k j e =
    let below = range-below n k j e in
    let one : k ≡ j = cc (sym (range-first n k below) ∙ e) in
    omega (arith, below, one)

pub mapped-length : {A : Type 0} (f : ℕ → A) (n : ℕ) → length (map f (range_with_len 0 n)) ≡ n
mapped-length f n = length-map (range_with_len 0 n) f ∙ length-range_with_len 0 n

-- ---- lists one after the other

-- an element of the first, or of the second
pub get-either : {A : Type 0} (xs ys : List A) (k : ℕ) (x : A) → slice_get (xs ++ ys) k ≡ Some x
    → (slice_get xs k ≡ Some x) ⊎ ((j : ℕ) × (k ≡ length xs + j) × (slice_get ys j ≡ Some x))
get-either [] ys k x e = inr (k, omega arith, e)
get-either (y ∷ xs) ys zero x e = inl e
get-either (y ∷ xs) ys (suc k) x e = elim (get-either xs ys k x e) [
  | inl front ↦ inl front
  | inr behind ↦ let same = behind.1 in inr (behind.0, omega (arith, same), behind.2)
]

-- the one element
pub get-one : {A : Type 0} (x y : A) (k : ℕ) → slice_get (x ∷ []) k ≡ Some y → x ≡ y
get-one x y zero e = cc
get-one x y (suc k) e = absurd cc
