-- A loop that reads values one after the other.
use Rattle.std.proofs.Common.{◌≡◌, ℕ, suc, List, [], ◌∷◌, ◌++◌, Ok, Err, refl, sym, ap, ◌∙◌, append_assoc}
use Rattle.std.proofs.lemmas.List.{append-nil}
use Rattle.class_format.specs.declared.failure.Failure.{Failure}
use Rattle.class_format.specs.declared.failure.Failure.TheVariants.{Missed, NoMemory}
use Rattle.class_definition.specs.Format.{Format, Reading, ◌>>=◌, chain_reading}
use Rattle.class_format.specs.Gives.{Fails}

-- what was read before, and what is still read
abbrev pub with_front : {A : Type 0} → List A → Reading (List A) → Reading (List A)
with_front front read = read >>= λ x. Ok (front ++ x.0, x.1)

regroup : {A : Type 0} (front : List A) (x : A) (read : Reading (List A)) → with_front front (read >>= λ xs. Ok (x ∷ xs.0, xs.1)) ≡ with_front (front ++ x ∷ []) read
regroup {A} front x (Ok xs) = ap (λ (ys : List A). Ok (ys, xs.1)) (sym (append_assoc front (x ∷ []) xs.0))
regroup front x (Err m) = refl

-- one more value was read
pub chain_more : {S A : Type 0} (g : S → ℕ → Format A) (next : S → A → S) (s : S) (k n : ℕ) (bytes after : List ℕ) (front : List A) (x : A) (total : Reading (List A))
    → k ≡ suc n → (g s n).read bytes ≡ Ok (x, after) → with_front front (chain_reading g next s k bytes) ≡ total
    → with_front (front ++ x ∷ []) (chain_reading g next (next s x) n after) ≡ total
unfolding chain_reading
chain_more g next s k n bytes after front x total more is so_far =
    let one : with_front front (chain_reading g next s k bytes) ≡ with_front (front ++ x ∷ []) (chain_reading g next (next s x) n after) = rw (more, is) (regroup front x (chain_reading g next (next s x) n after)) in
    sym one ∙ so_far

-- no value was read
pub chain_fails : {S A : Type 0} (g : S → ℕ → Format A) (next : S → A → S) (e : Failure) (s : S) (k n : ℕ) (bytes : List ℕ) (front : List A) (total : Reading (List A))
    → k ≡ suc n → Fails e ((g s n).read bytes) → with_front front (chain_reading g next s k bytes) ≡ total → Fails e total
unfolding chain_reading
chain_fails g next NoMemory s k n bytes front total more is so_far = tt
chain_fails g next (Missed m) s k n bytes front total more is so_far =
    let one : with_front front (chain_reading g next s k bytes) ≡ Err m = rw (more, is) refl in
    sym so_far ∙ one

-- no value is left
pub chain_done : {S A : Type 0} (g : S → ℕ → Format A) (next : S → A → S) (s : S) (k : ℕ) (bytes : List ℕ) (front : List A) (total : Reading (List A))
    → k ≡ 0 → with_front front (chain_reading g next s k bytes) ≡ total → total ≡ Ok (front, bytes)
unfolding chain_reading
chain_done {S} {A} g next s k bytes front total none so_far =
    let one : with_front front (chain_reading g next s k bytes) ≡ Ok (front, bytes) = rw none (ap (λ (xs : List A). Ok (xs, bytes)) (append-nil front)) in
    sym so_far ∙ one
