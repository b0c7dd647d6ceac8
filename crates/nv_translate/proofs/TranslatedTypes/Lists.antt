-- Elements of lists by their places, and what holds of all of them.
use Rattle.std.proofs.Common.{◌≡◌, ℕ, zero, suc, ◌+◌, ◌<◌, ◌≤◌, List, [], ◌∷◌, ◌++◌, map, flat_map, length, All, slice_get, Some, refl, ap, subst, ◌∙◌, arith}
use Rattle.std.specs.List.{range_with_len, AllZip}
use Rattle.std.proofs.lemmas.List.Elements.{All-nil, All-cons, All-head, All-tail, All-append}

pub left-of : {X : Type 0} (xs ys : List X) (k : ℕ) (x : X) → slice_get xs k ≡ Some x → slice_get (xs ++ ys) k ≡ Some x
left-of [] ys k x at = absurd (cc)
left-of (y ∷ xs) ys zero x at = at
left-of (y ∷ xs) ys (suc k) x at = left-of xs ys k x at

pub right-of : {X : Type 0} (xs ys : List X) (n k : ℕ) → length xs ≡ n → slice_get (xs ++ ys) (n + k) ≡ slice_get ys k
right-of [] ys n k long = let e : n + k ≡ k = omega (arith, long) in ap (slice_get ys) e
right-of (x ∷ xs) ys zero k long = absurd (omega (arith, long))
right-of (x ∷ xs) ys (suc n) k long =
    let e : suc n + k ≡ suc (n + k) = omega arith in
    ap (slice_get ((x ∷ xs) ++ ys)) e ∙ right-of xs ys n k (omega (arith, long))

pub last-of : {X : Type 0} (xs : List X) (x : X) (n : ℕ) → length xs ≡ n → slice_get (xs ++ x ∷ []) n ≡ Some x
last-of xs x n long =
    let e : n ≡ n + 0 = omega arith in
    ap (slice_get (xs ++ x ∷ [])) e ∙ right-of xs (x ∷ []) n 0 long

pub counted : {X : Type 0} (f : ℕ → X) (a n k : ℕ) → k < n → slice_get (map f (range_with_len a n)) k ≡ Some (f (a + k))
counted f a zero k below = absurd (omega arith)
counted f a (suc n) zero below = let e : a ≡ a + 0 = omega arith in ap (λ j. Some (f j)) e
counted f a (suc n) (suc k) below =
    let e : a + 1 + k ≡ a + suc k = omega arith in
    counted f (a + 1) n k (omega arith) ∙ ap (λ j. Some (f j)) e

pub counted-first : {X : Type 0} (f : ℕ → X) (n k : ℕ) → k < n → slice_get (map f (range_with_len 0 n)) k ≡ Some (f k)
counted-first f n k below = let e : 0 + k ≡ k = omega arith in counted f 0 n k below ∙ ap (λ j. Some (f j)) e

pub all-counted : {X : Type 0} (P : X → Type 0) (f : ℕ → X) (a n : ℕ) → ((j : ℕ) → a ≤ j → j < a + n → P (f j))
    → All P (map f (range_with_len a n))
all-counted P f a zero each = All-nil P
all-counted P f a (suc n) each =
    All-cons P (f a) (map f (range_with_len (a + 1) n)) (each a (omega arith) (omega arith))
    (all-counted P f (a + 1) n (λ j low high. each j (omega arith) (omega arith)))

-- what holds of all that each element gives holds of all that they give
pub all-joined : {X Y : Type 0} (P : Y → Type 0) (f : X → List Y) (xs : List X)
    → ((k : ℕ) (x : X) → slice_get xs k ≡ Some x → All P (f x)) → All P (flat_map f xs)
all-joined P f [] each = All-nil P
all-joined P f (x ∷ xs) each =
    All-append P (f x) (flat_map f xs) (each 0 x refl) (all-joined P f xs (λ k y there. each (suc k) y there))

pub all-at : {X : Type 0} (P : X → Type 0) (xs : List X) (k : ℕ) (x : X) → All P xs → slice_get xs k ≡ Some x → P x
all-at P [] k x all there = absurd (cc)
all-at P (y ∷ xs) zero x all there = let e : y ≡ x = cc in subst P e (All-head P y xs all)
all-at P (y ∷ xs) (suc k) x all there = all-at P xs k x (All-tail P y xs all) there

-- an element of the second list stands against one of the first
pub record StandsAgainst {X Y : Type 0} (R : X → Y → Type 0) (xs : List X) (k : ℕ) (y : Y) : Type 0 where
  pub one : X
  pub there : slice_get xs k ≡ Some one
  pub related : R one y

pub against : {X Y : Type 0} (R : X → Y → Type 0) (xs : List X) (ys : List Y) (k : ℕ) (y : Y) → AllZip R xs ys
    → slice_get ys k ≡ Some y → StandsAgainst R xs k y
against R [] [] k y zip there = absurd (cc)
against R [] (z ∷ ys) k y zip there = absurd zip
against R (x ∷ xs) [] k y zip there = absurd zip
against R (x ∷ xs) (z ∷ ys) zero y zip there =
    let e : z ≡ y = cc in
    record { one = x; there = refl; related = subst (R x) e zip.0 }
against R (x ∷ xs) (z ∷ ys) (suc k) y zip there =
    let r = against R xs ys k y zip.1 there in
    record { one = r.one; there = r.there; related = r.related }
