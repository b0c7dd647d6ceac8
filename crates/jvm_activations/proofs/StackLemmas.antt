-- The uppermost operands and those below them, of the slots in which they are kept.
use Rattle.std.proofs.Common.{◌≡◌, ℕ, ◌+◌, ◌≤◌, List, ◌++◌, length, take, drop, refl, ap, sym, ◌∙◌, arith, length-drop}
use Rattle.std.specs.Prelude.{reverse}
use Rattle.std.proofs.lemmas.List.{take-append-drop, take-take, drop-take, reverse-append, reverse-reverse, length-reverse, length-take-le, take_at, drop_at}

take_both : {X : Type 0} (xs : List X) (m n : ℕ) → take (m + n) xs ≡ take m xs ++ take n (drop m xs)
take_both xs m n =
    let le : m ≤ m + n = omega arith in
    let front : take m (take (m + n) xs) ≡ take m xs = take-take m (m + n) xs le in
    let back : drop m (take (m + n) xs) ≡ take n (drop m xs) = drop-take m n xs in
    rw (sym (take-append-drop m (take (m + n) xs)), front, back) refl

reversed_both : {X : Type 0} (xs : List X) (m n : ℕ) → reverse (take (m + n) xs) ≡ reverse (take n (drop m xs)) ++ reverse (take m xs)
reversed_both xs m n = ap reverse (take_both xs m n) ∙ reverse-append (take m xs) (take n (drop m xs))

upper_length : {X : Type 0} (xs : List X) (m n : ℕ) → m + n ≤ length xs → length (reverse (take n (drop m xs))) ≡ n
upper_length xs m n h =
    let le : n ≤ length (drop m xs) = omega (arith, length-drop m xs) in
    length-reverse (take n (drop m xs)) ∙ length-take-le n (drop m xs) le

pub dropped : {X : Type 0} (xs : List X) (t m n : ℕ) → m + n ≡ t → t ≤ length xs → reverse (take m xs) ≡ drop n (reverse (take t xs))
dropped xs t m n e h =
    let le : m + n ≤ length xs = omega arith in
    sym (drop_at (reverse (take n (drop m xs))) (reverse (take m xs)) n (upper_length xs m n le))
    ∙ ap (drop n) (sym (reversed_both xs m n) ∙ ap (λ k. reverse (take k xs)) e)

pub taken : {X : Type 0} (xs : List X) (t m n : ℕ) → m + n ≡ t → t ≤ length xs → take n (drop m xs) ≡ reverse (take n (reverse (take t xs)))
taken xs t m n e h =
    let le : m + n ≤ length xs = omega arith in
    sym (reverse-reverse (take n (drop m xs)))
    ∙ ap reverse
    (sym (take_at (reverse (take n (drop m xs))) (reverse (take m xs)) n (upper_length xs m n le))
    ∙ ap (take n) (sym (reversed_both xs m n) ∙ ap (λ k. reverse (take k xs)) e))
