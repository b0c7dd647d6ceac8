-- Tables that are read entry by entry.
use Rattle.std.proofs.Common.{◌≡◌, ℕ, ◌+◌, ◌≤◌, length, length-append, append_assoc, refl, List, [], ◌∷◌, ◌++◌, map, sym, ap, ◌∙◌, arith}
use Rattle.std.specs.List.{range_with_len}
use Rattle.std.proofs.lemmas.List.FromFn.{map-range_with_len_more}

-- one more entry
pub table_more : {X : Type 0} (entry : ℕ → X) (xs ys : List X) (x : X) (n : ℕ)
    → xs ≡ map entry (range_with_len 0 n) → x ≡ entry n → ys ≡ xs ++ x ∷ []
    → ys ≡ map entry (range_with_len 0 (n + 1))
table_more entry xs ys x n before here pushed =
    let more = map-range_with_len_more entry 0 n n (omega arith) in
    let old = ap (λ l. l ++ x ∷ []) before in
    let new = ap (λ e. map entry (range_with_len 0 n) ++ e ∷ []) here in
    pushed ∙ old ∙ new ∙ sym more

pub few_more : {X : Type 0} (xs ys : List X) (x : X) (n : ℕ) → length xs ≤ n → ys ≡ xs ++ x ∷ [] → length ys ≤ n + 1
few_more xs ys x n few pushed = omega (arith, few, ap length pushed, length-append xs (x ∷ []))

-- one more entry behind others
pub append_more : {X : Type 0} (entry : ℕ → X) (old xs ys : List X) (x : X) (n : ℕ)
    → xs ≡ old ++ map entry (range_with_len 0 n) → x ≡ entry n → ys ≡ xs ++ x ∷ []
    → ys ≡ old ++ map entry (range_with_len 0 (n + 1))
append_more entry old xs ys x n before here pushed =
    let all = map entry (range_with_len 0 n) in
    pushed ∙ ap (λ l. l ++ x ∷ []) before ∙ append_assoc old all (x ∷ [])
    ∙ ap (λ l. old ++ l) (table_more entry all (all ++ x ∷ []) x n refl here refl)
