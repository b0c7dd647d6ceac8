-- Elements of lists in which one was set.
use Rattle.std.proofs.Common.{◌≡◌, ◌≢◌, ◌<◌, ℕ, zero, suc, List, [], ◌∷◌, ◌++◌, length, get_or, set, Some, refl, ap, sym, ◌∙◌, arith}
use Rattle.std.specs.Prelude.{slice_get}
use Rattle.std.proofs.lemmas.Option.{same_Some}

module _ {X : Type 0} where
  pub found : (xs : List X) (i : ℕ) → i < length xs → (x : X) × (slice_get xs i ≡ Some x)
  found [] i h = absurd (omega arith)
  found (x ∷ xs) zero h = (x, refl)
  found (x ∷ xs) (suc i) h = found xs i (omega arith)

  pub get-of : (xs : List X) (i : ℕ) (d : X) → i < length xs → slice_get xs i ≡ Some (get_or xs i d)
  get-of [] i d h = absurd (omega arith)
  get-of (x ∷ xs) zero d h = refl
  get-of (x ∷ xs) (suc i) d h = get-of xs i d (omega arith)

  pub set-same : (xs : List X) (i : ℕ) (y : X) → i < length xs → slice_get (set xs i y) i ≡ Some y
  set-same [] i y h = absurd (omega arith)
  set-same (x ∷ xs) zero y h = refl
  set-same (x ∷ xs) (suc i) y h = set-same xs i y (omega arith)

  pub set-other : (xs : List X) (i j : ℕ) (y : X) → j ≢ i → slice_get (set xs i y) j ≡ slice_get xs j
  set-other [] i j y apart = refl
  set-other (x ∷ xs) zero zero y apart = absurd (apart refl)
  set-other (x ∷ xs) zero (suc j) y apart = refl
  set-other (x ∷ xs) (suc i) zero y apart = refl
  set-other (x ∷ xs) (suc i) (suc j) y apart = set-other xs i j y (λ e. apart (ap (λ n. suc n) e))

  -- what stands where one was set
  pub set-is : (xs : List X) (i : ℕ) (x y : X) → i < length xs → slice_get (set xs i y) i ≡ Some x → x ≡ y
  set-is xs i x y h is = same_Some x y (sym is ∙ set-same xs i y h)

  -- one more at the end
  pub at-end : (xs : List X) (y : X) → slice_get (xs ++ y ∷ []) (length xs) ≡ Some y
  at-end [] y = refl
  at-end (x ∷ xs) y = at-end xs y

  pub before-end : (xs : List X) (y : X) (i : ℕ) → i < length xs → slice_get (xs ++ y ∷ []) i ≡ slice_get xs i
  before-end [] y i h = absurd (omega arith)
  before-end (x ∷ xs) y zero h = refl
  before-end (x ∷ xs) y (suc i) h = before-end xs y i (omega arith)

  -- ---- in two parts

  set-front : (xs ys : List X) (i : ℕ) (x : X) → i < length xs → set (xs ++ ys) i x ≡ set xs i x ++ ys
  set-front [] ys i x h = absurd (omega arith)
  set-front (z ∷ xs) ys zero x h = refl
  set-front (z ∷ xs) ys (suc i) x h = ap (λ l. z ∷ l) (set-front xs ys i x (omega arith))

  set-behind : (xs ys : List X) (i : ℕ) (x : X) → i ≡ length xs → set (xs ++ ys) i x ≡ xs ++ set ys 0 x
  set-behind [] ys i x is = ap (λ k. set ys k x) is
  set-behind (z ∷ xs) ys zero x is = absurd (omega arith)
  set-behind (z ∷ xs) ys (suc i) x is = ap (λ l. z ∷ l) (set-behind xs ys i x (omega arith))

  -- the last of the one and the first of the other
  pub set-split : (xs ys : List X) (i : ℕ) (x y : X) → length xs ≡ suc i → length (set xs i x) ≡ suc i → set xs i x ++ set ys 0 y ≡ set (set (xs ++ ys) i x) (suc i) y
  set-split xs ys i x y long still =
      sym (set-behind (set xs i x) ys (suc i) y (sym still)) ∙ ap (λ l. set l (suc i) y) (sym (set-front xs ys i x (omega arith)))

  pub get-front : (xs ys : List X) (i : ℕ) → i < length xs → slice_get (xs ++ ys) i ≡ slice_get xs i
  get-front [] ys i h = absurd (omega arith)
  get-front (z ∷ xs) ys zero h = refl
  get-front (z ∷ xs) ys (suc i) h = get-front xs ys i (omega arith)

  pub get-behind : (xs ys : List X) (i : ℕ) → i ≡ length xs → slice_get (xs ++ ys) i ≡ slice_get ys 0
  get-behind [] ys i is = ap (slice_get ys) is
  get-behind (z ∷ xs) ys zero is = absurd (omega arith)
  get-behind (z ∷ xs) ys (suc i) is = get-behind xs ys i (omega arith)
