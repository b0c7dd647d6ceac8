-- What holds of the elements of two lists side by side.
use Rattle.std.proofs.Common.{◌≡◌, ℕ, ◌+◌, List, [], ◌∷◌, ◌++◌, refl, sym, ap, ◌∙◌, arith}
use Rattle.std.specs.List.{AllZip, range_with_len}
use Rattle.std.proofs.lemmas.List.{map-id}
use Rattle.std.proofs.lemmas.List.FromFn.{map-range_with_len_more}

-- what follows from it
pub zip-through : {A B : Type 0} (R S : A → B → Type 0) → ((a : A) (b : B) → R a b → S a b) → (xs : List A) (ys : List B) → AllZip R xs ys
    → AllZip S xs ys
zip-through R S through [] [] all = all
zip-through R S through [] (y ∷ ys) all = absurd all
zip-through R S through (x ∷ xs) [] all = absurd all
zip-through R S through (x ∷ xs) (y ∷ ys) all = (through x y all.0, zip-through R S through xs ys all.1)

pub zip-joined : {A B : Type 0} (R : A → B → Type 0) (xs : List A) (ys : List B) (vs : List A) (ws : List B) → AllZip R xs ys → AllZip R vs ws
    → AllZip R (xs ++ vs) (ys ++ ws)
zip-joined R [] [] vs ws first second = second
zip-joined R [] (y ∷ ys) vs ws first second = absurd first
zip-joined R (x ∷ xs) [] vs ws first second = absurd first
zip-joined R (x ∷ xs) (y ∷ ys) vs ws first second = (first.0, zip-joined R xs ys vs ws first.1 second)

pub zip-none : {A B : Type 0} (R : A → B → Type 0) (xs : List A) → AllZip R xs [] → xs ≡ []
zip-none R [] none = refl
zip-none R (x ∷ xs) none = absurd none

-- one number more
pub range-more : (k : ℕ) → range_with_len 0 (k + 1) ≡ range_with_len 0 k ++ k ∷ []
range-more k =
    sym (map-id (range_with_len 0 (k + 1)))
    ∙ map-range_with_len_more (λ (n : ℕ). n) 0 k k (omega arith)
    ∙ ap (λ l. l ++ k ∷ []) (map-id (range_with_len 0 k))
