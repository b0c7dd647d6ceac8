-- What holds of each element of lists that are made.
use Rattle.std.proofs.Common.{ℕ, zero, suc, ◌+◌, ◌<◌, ◌≤◌, List, [], ◌∷◌, ◌++◌, map, All, arith}
use Rattle.std.specs.List.{range_with_len, AllByRecursion}
use Rattle.std.proofs.lemmas.List.Elements.{All-from_recursion}

pub each-counted : {X : Type 0} (P : X → Type 0) (f : ℕ → X) (a n : ℕ) → ((j : ℕ) → a ≤ j → j < a + n → P (f j))
    → AllByRecursion P (map f (range_with_len a n))
each-counted P f a zero each = tt
each-counted P f a (suc n) each =
    (each a (omega arith) (omega arith), each-counted P f (a + 1) n (λ j low high. each j (omega arith) (omega arith)))

pub all-counted : {X : Type 0} (P : X → Type 0) (f : ℕ → X) (a n : ℕ) → ((j : ℕ) → a ≤ j → j < a + n → P (f j)) → All P (map f (range_with_len a n))
all-counted P f a n each = All-from_recursion P (map f (range_with_len a n)) (each-counted P f a n each)

pub each-joined : {X : Type 0} (P : X → Type 0) (xs ys : List X) → AllByRecursion P xs → AllByRecursion P ys → AllByRecursion P (xs ++ ys)
each-joined P [] ys each others = others
each-joined P (x ∷ xs) ys each others = (each.0, each-joined P xs ys each.1 others)
