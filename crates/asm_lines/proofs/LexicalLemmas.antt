-- Bytes before and from a place on, and trimmed ends.
use Rattle.std.proofs.Common.{◌≡◌, ℕ, ◌-◌, ◌≤◌, ◌++◌, Bool, true, false, cond, List, [], ◌∷◌, length, take, suc, ◌&&◌, sym, ◌∙◌, Some, None, arith, refl, ap}
use Rattle.std.proofs.lemmas.Grind.{common_steps}
use Rattle.std.specs.Prelude.{◌==◌, slice_index}
use Rattle.asm_lines.specs.Lexical.{name_before, is_name, before_byte, from, up_to_last, all, is_blank}

pub length_from : (test : ℕ → Bool) (bs : List ℕ) → length (from test bs) ≤ length bs
length_from test [] = omega arith
length_from test (b ∷ bs) =
    elim (test b) as (λ t. length (cond t (b ∷ bs) (from test bs)) ≤ length (b ∷ bs))
    [ true ↦ omega arith | false ↦ omega (arith, length_from test bs) ]

pub take_more : (n m b : ℕ) (bs : List ℕ) → m ≤ n → take (suc n - m) (b ∷ bs) ≡ b ∷ take (n - m) bs
take_more n m b bs h = let e : suc n - m ≡ suc (n - m) = omega arith in rw e refl

pub take_none : (n : ℕ) (bs : List ℕ) → [] ≡ take (n - n) bs
take_none n bs = let e : n - n ≡ 0 = omega arith in rw e refl

-- what stands before the first byte that passes is the rest of what stands from it on
pub before_from : (test : ℕ → Bool) (bs : List ℕ) → before_byte test bs ≡ take (length bs - length (from test bs)) bs
before_from test [] = refl
before_from test (b ∷ bs) =
    elim (test b) as (λ t. cond t [] (b ∷ before_byte test bs) ≡ take (length (b ∷ bs) - length (cond t (b ∷ bs) (from test bs))) (b ∷ bs)) [
      | true ↦ take_none (length (b ∷ bs)) (b ∷ bs)
      | false ↦ ap (λ xs. b ∷ xs) (before_from test bs) ∙ sym (take_more (length bs) (length (from test bs)) b bs (length_from test bs))
    ]

and_end : (p q r : Bool) → (p && (q && r)) ≡ ((p && q) && r)
and_end true q r = refl
and_end false q r = refl

and_false : (p : Bool) → (p && false) ≡ false
and_false true = refl
and_false false = refl

and_true : (p : Bool) → (p && true) ≡ p
and_true true = refl
and_true false = refl

all_end : (test : ℕ → Bool) (bs : List ℕ) (b : ℕ) → all test (bs ++ b ∷ []) ≡ (all test bs && test b)
all_end test [] b = and_true (test b)
all_end test (c ∷ bs) b = ap (λ t. test c && t) (all_end test bs b) ∙ and_end (test c) (all test bs) (test b)

-- a byte at the end that is no blank stays
pub up_to_dark : (other : ℕ) (bs : List ℕ) (b : ℕ) → is_blank other b ≡ false → up_to_last other (bs ++ b ∷ []) ≡ bs ++ b ∷ []
up_to_dark other [] b h = rw h refl
up_to_dark other (c ∷ bs) b h =
    let e : all (is_blank other) (c ∷ (bs ++ b ∷ [])) ≡ false =
    all_end (is_blank other) (c ∷ bs) b ∙ ap (λ t. all (is_blank other) (c ∷ bs) && t) h ∙ and_false (all (is_blank other) (c ∷ bs)) in
    rw e (ap (λ xs. c ∷ xs) (up_to_dark other bs b h))

-- a blank at the end goes
pub up_to_blank : (other : ℕ) (bs : List ℕ) (b : ℕ) → is_blank other b ≡ true → up_to_last other (bs ++ b ∷ []) ≡ up_to_last other bs
up_to_blank other [] b h = rw h refl
up_to_blank other (c ∷ bs) b h =
    let e : all (is_blank other) (c ∷ (bs ++ b ∷ [])) ≡ all (is_blank other) (c ∷ bs) =
    all_end (is_blank other) (c ∷ bs) b ∙ ap (λ t. all (is_blank other) (c ∷ bs) && t) h ∙ and_true (all (is_blank other) (c ∷ bs)) in
    rw e (ap (λ xs. cond (all (is_blank other) (c ∷ bs)) [] (c ∷ xs)) (up_to_blank other bs b h))

pub take_end : (xs : List ℕ) (x : ℕ) → take (length (xs ++ x ∷ []) - 1) (xs ++ x ∷ []) ≡ xs
take_end xs x = grind (arith, common_steps)

pub index_end : (xs : List ℕ) (x : ℕ) → slice_index (xs ++ x ∷ []) (length (xs ++ x ∷ []) - 1) ≡ x
index_end xs x = grind (arith, common_steps)

pub name_before_end : (stop : ℕ) (xs : List ℕ) (x : ℕ)
    → name_before stop (xs ++ x ∷ []) ≡ cond (x == stop && is_name xs) (Some xs) None
name_before_end stop xs x = simp (take_end xs x, index_end xs x) refl
