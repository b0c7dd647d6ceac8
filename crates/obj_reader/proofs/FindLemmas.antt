-- The first element of a list that passes a test.
use Rattle.std.proofs.Common.{◌≡◌, ◌<◌, length, get_or, ℕ, zero, suc, Bool, true, false, cond, List, [], ◌∷◌, slice_get, Option, Some, None, sym, ap, ◌∙◌, inl, inr}
use Rattle.std.specs.List.{find}
use Rattle.std.proofs.lemmas.Bool.{cases_Bool}
use Rattle.std.proofs.lemmas.Option.{slice_get-get_or}

pub some_none : {X : Type 0} {Y : Type 0} (x : X) → ◌≡◌ {A = Option X} (Some x) None → Y
some_none x e = absurd (cc)

-- what no element passes, what is found does not
pub none_found : {X : Type 0} (p q : X → Bool) (xs : List X) (x : X) → find p xs ≡ None → find q xs ≡ Some x → p x ≡ false
none_found p q [] x none found = cc
none_found p q (y ∷ ys) x none found =
    elim (cases_Bool (p y)) [
      | inl on ↦ some_none y (ap (λ t. cond t (Some y) (find p ys)) (sym on) ∙ none)
      | inr off ↦ elim (cases_Bool (q y)) [
        | inl here ↦
            let e : Some y ≡ Some x = ap (λ t. cond t (Some y) (find q ys)) (sym here) ∙ found in
            let same : y ≡ x = cc in
            ap p (sym same) ∙ off
        | inr later ↦
            none_found p q ys x (ap (λ t. cond t (Some y) (find p ys)) (sym off) ∙ none) (ap (λ t. cond t (Some y) (find q ys)) (sym later) ∙ found)
      ]
    ]

-- nor does what stands at a place
pub none_at : {X : Type 0} (p : X → Bool) (xs : List X) (i : ℕ) (x : X) → find p xs ≡ None → slice_get xs i ≡ Some x → p x ≡ false
none_at p [] i x none at = cc
none_at p (y ∷ ys) zero x none at =
    let same : y ≡ x = cc in
    elim (cases_Bool (p y)) [
      | inl on ↦ some_none y (ap (λ t. cond t (Some y) (find p ys)) (sym on) ∙ none)
      | inr off ↦ ap p (sym same) ∙ off
    ]
none_at p (y ∷ ys) (suc i) x none at =
    elim (cases_Bool (p y)) [
      | inl on ↦ some_none y (ap (λ t. cond t (Some y) (find p ys)) (sym on) ∙ none)
      | inr off ↦ none_at p ys i x (ap (λ t. cond t (Some y) (find p ys)) (sym off) ∙ none) at
    ]

-- what is found passes
pub found_passes : {X : Type 0} (p : X → Bool) (xs : List X) (x : X) → find p xs ≡ Some x → p x ≡ true
found_passes p [] x found = cc
found_passes p (y ∷ ys) x found =
    elim (cases_Bool (p y)) [
      | inl on ↦
          let e : Some y ≡ Some x = ap (λ t. cond t (Some y) (find p ys)) (sym on) ∙ found in
          let same : y ≡ x = cc in
          ap p (sym same) ∙ on
      | inr off ↦ found_passes p ys x (ap (λ t. cond t (Some y) (find p ys)) (sym off) ∙ found)
    ]

-- the same of the place of a loop
pub none_within : {X : Type 0} (p : X → Bool) (xs : List X) (i : ℕ) (d : X) → find p xs ≡ None → i < length xs → p (get_or xs i d) ≡ false
none_within p xs i d none lt = none_at p xs i (get_or xs i d) none (slice_get-get_or xs i d lt)
