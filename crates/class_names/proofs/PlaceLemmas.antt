-- The first place of what passes a test.
use Rattle.std.proofs.Common.{◌≡◌, ℕ, suc, ◌+◌, Bool, true, false, cond, not, ltb, ◌||◌, List, [], ◌∷◌, ◌++◌, length, Option, Some, None, is_some, refl, sym, ap, ◌∙◌, arith, position, map}
use Rattle.std.specs.Prelude.{option_map}
use Rattle.std.specs.List.{AllZip, list_any, position_or_len}
use Rattle.std.specs.Option.{option_or}
use Rattle.std.proofs.lemmas.Bool.{lt-ltb, le-ltb, ltb-true, ltb-false}

same_ltb : (n m : ℕ) → ltb (1 + n) (suc m) ≡ ltb n m
same_ltb n m = by (ltb n m) refl
  where
    by : (b : Bool) → ltb n m ≡ b → ltb (1 + n) (suc m) ≡ ltb n m
    by true e = lt-ltb (1 + n) (suc m) (omega (arith, ltb-true n m e)) ∙ sym e
    by false e = le-ltb (1 + n) (suc m) (omega (arith, ltb-false n m e)) ∙ sym e

shifted : (b : Bool) (n : ℕ) → cond b (Some (1 + n)) None ≡ option_map (λ k. 1 + k) (cond b (Some n) None)
shifted true n = refl
shifted false n = refl

pub position-cons : {X : Type 0} (p : X → Bool) (x : X) (xs : List X) → position p (x ∷ xs) ≡ cond (p x) (Some 0) (option_map (λ k. 1 + k) (position p xs))
position-cons p x xs = by (p x)
  where
    by : (b : Bool) → cond (ltb (cond (not b) (1 + position_or_len p xs) 0) (suc (length xs))) (Some (cond (not b) (1 + position_or_len p xs) 0)) None
        ≡ cond b (Some 0) (option_map (λ k. 1 + k) (position p xs))
    by true = ap (λ t. cond t (Some 0) None) (lt-ltb 0 (suc (length xs)) (omega arith))
    by false = ap (λ t. cond t (Some (1 + position_or_len p xs)) None) (same_ltb (position_or_len p xs) (length xs)) ∙ shifted (ltb (position_or_len p xs) (length xs)) (position_or_len p xs)

pub is_some-position : {X : Type 0} (p : X → Bool) (xs : List X) → is_some (position p xs) ≡ list_any p xs
is_some-position p [] = refl
is_some-position p (x ∷ xs) = ap is_some (position-cons p x xs) ∙ by (p x) (position p xs) ∙ ap (λ t. p x || t) (is_some-position p xs)
  where
    by : (b : Bool) (o : Option ℕ) → is_some (cond b (Some 0) (option_map (λ k. 1 + k) o)) ≡ (b || is_some o)
    by true o = refl
    by false None = refl
    by false (Some n) = refl

-- of a list and more: as in the list, or behind it
pub position-append : {X : Type 0} (p : X → Bool) (xs ys : List X) → position p (xs ++ ys) ≡ option_or (position p xs) (option_map (λ k. length xs + k) (position p ys))
position-append p [] ys = by (position p ys)
  where
    by : (o : Option ℕ) → o ≡ option_map (λ k. 0 + k) o
    by None = refl
    by (Some n) = ap (λ m. Some m) (omega arith)
position-append p (x ∷ xs) ys =
    position-cons p x (xs ++ ys) ∙ ap (λ o. cond (p x) (Some 0) (option_map (λ k. 1 + k) o)) (position-append p xs ys) ∙ by (p x) (position p xs) (position p ys)
    ∙ ap (λ o. option_or o (option_map (λ k. suc (length xs) + k) (position p ys))) (sym (position-cons p x xs))
  where
    by : (b : Bool) (o q : Option ℕ) → cond b (Some 0) (option_map (λ k. 1 + k) (option_or o (option_map (λ k. length xs + k) q)))
        ≡ option_or (cond b (Some 0) (option_map (λ k. 1 + k) o)) (option_map (λ k. suc (length xs) + k) q)
    by true o q = refl
    by false (Some n) q = refl
    by false None None = refl
    by false None (Some n) = ap (λ m. Some m) (omega arith)

-- ---- two lists whose elements pass two tests alike

pub any_alike : {X Y : Type 0} (R : X → Y → Type 0) (p : X → Bool) (q : Y → Bool) → ((x : X) (y : Y) → R x y → p x ≡ q y) → (xs : List X) (ys : List Y) → AllZip R xs ys → list_any p xs ≡ list_any q ys
any_alike R p q same [] [] zip = refl
any_alike R p q same [] (y ∷ ys) zip = absurd zip
any_alike R p q same (x ∷ xs) [] zip = absurd zip
any_alike R p q same (x ∷ xs) (y ∷ ys) zip = λ i. same x y zip.0 i || any_alike R p q same xs ys zip.1 i

pub position_alike : {X Y : Type 0} (R : X → Y → Type 0) (p : X → Bool) (q : Y → Bool) → ((x : X) (y : Y) → R x y → p x ≡ q y) → (xs : List X) (ys : List Y) → AllZip R xs ys → position p xs ≡ position q ys
position_alike R p q same [] [] zip = refl
position_alike R p q same [] (y ∷ ys) zip = absurd zip
position_alike R p q same (x ∷ xs) [] zip = absurd zip
position_alike R p q same (x ∷ xs) (y ∷ ys) zip =
    position-cons p x xs ∙ (λ i. cond (same x y zip.0 i) (Some 0) (option_map (λ k. 1 + k) (position_alike R p q same xs ys zip.1 i))) ∙ sym (position-cons q y ys)

pub AllZip-append : {X Y : Type 0} (R : X → Y → Type 0) (xs vs : List X) (ys ws : List Y) → AllZip R xs ys → AllZip R vs ws → AllZip R (xs ++ vs) (ys ++ ws)
AllZip-append R [] vs [] ws a b = b
AllZip-append R [] vs (y ∷ ys) ws a b = absurd a
AllZip-append R (x ∷ xs) vs [] ws a b = absurd a
AllZip-append R (x ∷ xs) vs (y ∷ ys) ws a b = (a.0, AllZip-append R xs vs ys ws a.1 b)

pub AllZip-map : {X Y A : Type 0} (R : X → Y → Type 0) (f : A → X) (g : A → Y) → ((a : A) → R (f a) (g a)) → (xs : List A) → AllZip R (map f xs) (map g xs)
AllZip-map R f g h [] = tt
AllZip-map R f g h (x ∷ xs) = (h x, AllZip-map R f g h xs)
