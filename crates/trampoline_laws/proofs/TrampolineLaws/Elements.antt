-- What holds of each element of lists that are made.
use Rattle.std.proofs.Common.{◌≡◌, ℕ, zero, suc, ◌+◌, ◌<◌, ◌≤◌, List, [], ◌∷◌, length, map, slice_get, None, Some, All, flat_map, refl, subst, arith}
use Rattle.std.specs.List.{range_with_len}
use Rattle.std.proofs.lemmas.List.Elements.{All-nil, All-cons, All-head, All-tail, All-append}

pub all-at : {X : Type 0} (P : X → Type 0) (xs : List X) (i : ℕ) (x : X) → All P xs → slice_get xs i ≡ Some x → P x
all-at P [] i x all at = absurd (cc)
all-at P (y ∷ xs) zero x all at = let same : y ≡ x = cc in subst P same (All-head P y xs all)
all-at P (y ∷ xs) (suc i) x all at = all-at P xs i x (All-tail P y xs all) at

pub all-joined : {X Y : Type 0} (P : Y → Type 0) (f : X → List Y) (xs : List X) → ((i : ℕ) (x : X) → slice_get xs i ≡ Some x → All P (f x)) → All P (flat_map f xs)
all-joined P f [] each = All-nil P
all-joined P f (x ∷ xs) each =
    All-append P (f x) (flat_map f xs) (each 0 x refl) (all-joined P f xs (λ i y at. each (suc i) y at))

pub all-counted : {Y : Type 0} (P : Y → Type 0) (f : ℕ → Y) (a n : ℕ) → ((j : ℕ) → a ≤ j → j < a + n → P (f j)) → All P (map f (range_with_len a n))
all-counted P f a zero each = All-nil P
all-counted P f a (suc n) each =
    All-cons P (f a) (map f (range_with_len (a + 1) n)) (each a (omega arith) (omega arith))
    (all-counted P f (a + 1) n (λ j low high. each j (omega arith) (omega arith)))

pub none-past : {X : Type 0} (xs : List X) (i : ℕ) → i < length xs → slice_get xs i ≡ None → ⊥
none-past [] i within none = omega arith
none-past (x ∷ xs) zero within none = cc
none-past (x ∷ xs) (suc i) within none = none-past xs i (omega arith) none
