-- Lists by their elements.
use Rattle.std.proofs.Common.{◌≡◌, ◌∙◌, ◌≤◌, ◌<◌, ◌+◌, ◌-◌, ◌&&◌, ℕ, zero, suc, Bool, true, false, List, [], ◌∷◌, ◌++◌, length, map, drop, replicate, slice_get, Some, None, refl, ap, ap₂, arith, drop-cons, add-one}
use Rattle.std.proofs.lemmas.Bool.Decides.{nat_tests}
use Rattle.std.proofs.lemmas.Option.{get_or_from_slice_get, same_Some}
use Rattle.std.specs.List.{list_all}
use Rattle.std.specs.Prelude.{nat_lt}
use Rattle.nv_values.specs.Names.{is_class_name, is_letter, is_letter_or_digit}
use Rattle.command_pipe.specs.Pipe.{each}

pub is-nil : {A : Type 0} (xs : List A) → length xs ≡ 0 → xs ≡ []
is-nil [] e = refl
is-nil (x ∷ xs) e = absurd (omega (arith, e))

-- a list of so many elements, which are these
pub each-is : {A : Type 0} (xs : List A) (f : ℕ → A) (n : ℕ) → length xs ≡ n → ((i : ℕ) → i < n → slice_get xs i ≡ Some (f i)) → xs ≡ each f n
each-is [] f zero e h = refl
each-is [] f (suc n) e h = absurd (omega (arith, e))
each-is (x ∷ xs) f zero e h = absurd (omega (arith, e))
each-is (x ∷ xs) f (suc n) e h =
    ap₂ (λ y ys. y ∷ ys) (same_Some x (f 0) (h 0 (omega arith))) (each-is xs (λ i. f (suc i)) n (omega (arith, e)) (λ i within. h (suc i) (omega (arith, within))))

-- eight places hold a list of eight elements at most
pub eight-places : {A : Type 0} (xs : List A) → length xs ≤ 8
    → slice_get xs 0 ∷ slice_get xs 1 ∷ slice_get xs 2 ∷ slice_get xs 3 ∷ slice_get xs 4 ∷ slice_get xs 5 ∷ slice_get xs 6 ∷ slice_get xs 7 ∷ []
    ≡ map (λ x. Some x) xs ++ replicate (8 - length xs) None
eight-places [] few = refl
eight-places (a ∷ []) few = refl
eight-places (a ∷ b ∷ []) few = refl
eight-places (a ∷ b ∷ c ∷ []) few = refl
eight-places (a ∷ b ∷ c ∷ d ∷ []) few = refl
eight-places (a ∷ b ∷ c ∷ d ∷ e ∷ []) few = refl
eight-places (a ∷ b ∷ c ∷ d ∷ e ∷ f ∷ []) few = refl
eight-places (a ∷ b ∷ c ∷ d ∷ e ∷ f ∷ g ∷ []) few = refl
eight-places (a ∷ b ∷ c ∷ d ∷ e ∷ f ∷ g ∷ h ∷ []) few = refl
eight-places (a ∷ b ∷ c ∷ d ∷ e ∷ f ∷ g ∷ h ∷ i ∷ more) few = absurd (omega (arith, few))

-- the elements from one on
pub drop-at : {A : Type 0} (xs : List A) (i : ℕ) (x : A) → i < length xs → slice_get xs i ≡ Some x → drop i xs ≡ x ∷ drop (i + 1) xs
drop-at xs i x within is = rw add-one (drop-cons xs i x within ∙ ap (λ y. y ∷ drop (suc i) xs) (get_or_from_slice_get xs i x x is))

-- none behind the end
pub none-behind : {A : Type 0} (xs : List A) (i : ℕ) → length xs ≤ i → slice_get xs i ≡ None
none-behind [] i past = refl
none-behind (x ∷ xs) zero past = absurd (omega (arith, past))
none-behind (x ∷ xs) (suc i) past = none-behind xs i (omega (arith, past))

second : (a b : Bool) → (a && b) ≡ true → b ≡ true
second true b e = e
second false b e = absurd (cc)

-- a name of a class has 64 characters at most
pub short-name : (name : List ℕ) → is_class_name name ≡ true → length name ≤ 64
short-name [] e = omega arith
short-name (b ∷ bs) e =
    let small : nat_lt (length bs) 64 ≡ true = second (is_letter b && list_all is_letter_or_digit bs) (nat_lt (length bs) 64) e in
    at_most (length bs) small
  where
    at_most : (n : ℕ) → nat_lt n 64 ≡ true → suc n ≤ 64
    at_most n h = grind (arith, nat_tests)
