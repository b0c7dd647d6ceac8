-- How many elements of a list pass a test.
use Rattle.std.proofs.Common.{◌≡◌, ℕ, zero, suc, ◌+◌, ◌≤◌, Bool, true, false, cond, not, List, [], ◌∷◌, length, None, count_by, position, refl, inl, inr, arith}
use Rattle.std.specs.List.{prefix_len}
use Rattle.std.specs.List.Sorted.{IsPartitionPoint}
use Rattle.std.proofs.lemmas.Bool.{cases_Bool}
use Rattle.std.proofs.lemmas.Bool.Decides.{nat_tests}
use Rattle.std.proofs.lemmas.List.Sums.{sum_by-cons}

pub count_by-cons : {X : Type 0} (p : X → Bool) (x : X) (xs : List X) → count_by p (x ∷ xs) ≡ cond (p x) 1 0 + count_by p xs
count_by-cons p x xs = sum_by-cons (λ y. cond (p y) 1 0) x xs

pub one : (b : Bool) → b ≡ true → ◌≡◌ {A = ℕ} (cond b 1 0) 1
one b e = rw e refl

pub nothing : (b : Bool) → b ≡ false → ◌≡◌ {A = ℕ} (cond b 1 0) 0
nothing b e = rw e refl

-- the place up to which a test passes is how many pass it
pub partition_count : {X : Type 0} (p : X → Bool) (xs : List X) (i : ℕ) → i ≤ length xs
    → IsPartitionPoint (λ y. p y ≡ true) (λ y. p y ≡ false) xs i → i ≡ count_by p xs
partition_count p [] i le parts = omega arith
partition_count p (x ∷ xs) zero le parts =
    let here = nothing (p x) (parts.1 0 x (omega arith) (omega arith)) in
    let rest = partition_count p xs zero (omega arith) (λ k d low high. absurd (omega arith), λ k d low high. parts.1 (suc k) d (omega arith) (omega arith)) in
    omega (arith, here, rest, count_by-cons p x xs)
partition_count p (x ∷ xs) (suc i) le parts =
    let here = one (p x) (parts.0 0 x (omega arith) (omega arith)) in
    let rest = partition_count p xs i (omega arith) (λ k d low high. parts.0 (suc k) d (omega arith) (omega arith), λ k d low high. parts.1 (suc k) d (omega arith) (omega arith)) in
    omega (arith, here, rest, count_by-cons p x xs)

-- none passes
pub count_by-none : {X : Type 0} (p : X → Bool) (xs : List X) → ((x : X) → p x ≡ false) → count_by p xs ≡ 0
count_by-none p [] never = refl
count_by-none p (x ∷ xs) never = omega (arith, nothing (p x) (never x), count_by-none p xs never, count_by-cons p x xs)

prefix_len-count : {X : Type 0} (p : X → Bool) (xs : List X) → count_by p xs ≡ 0 → prefix_len (λ x. not (p x)) xs ≡ length xs
prefix_len-count p [] none = refl
prefix_len-count p (x ∷ xs) none =
    elim (cases_Bool (p x)) [
      | inl passes ↦ absurd (omega (arith, one (p x) passes, count_by-cons p x xs, none))
      | inr fails ↦ rw fails (omega (arith, prefix_len-count p xs (omega (arith, count_by-cons p x xs, none))))
    ]

-- where none passes there is no first one
pub position-none : {X : Type 0} (p : X → Bool) (xs : List X) → count_by p xs ≡ 0 → position p xs ≡ None
position-none p xs none = rw (prefix_len-count p xs none) (grind (arith, nat_tests))
