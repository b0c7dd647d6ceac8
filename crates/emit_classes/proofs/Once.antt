-- Lists with each element where it stands first.
use Rattle.std.proofs.Common.{◌≡◌, ◌||◌, Bool, true, false, if◌then◌else◌, List, [], ◌∷◌, ◌++◌, inl, inr, refl, sym, ap, subst, ◌∙◌, append_assoc}
use Rattle.std.specs.List.{list_any, list_all}
use Rattle.std.proofs.lemmas.Bool.{and_parts, and_from, or_cases, or_left, or_right}
use Rattle.std.proofs.lemmas.List.{append-nil}
use Rattle.std.proofs.lemmas.List.Folds.{list_any-append}
use Rattle.emit_classes.specs.Mentioned.{fresh, once}

-- ---- lists behind lists

pub fresh-append : {A : Type 0} (same : A → A → Bool) (before xs ys : List A)
    → fresh same before (xs ++ ys) ≡ fresh same before xs ++ fresh same (before ++ fresh same before xs) ys
unfolding fresh
fresh-append same before [] ys = ap (λ b. fresh same b ys) (sym (append-nil before))
fresh-append {A} same before (x ∷ xs) ys =
    let more : List A = before ++ x ∷ [] in
    let kept = fresh-append same before xs ys in
    let put = fresh-append same more xs ys
    ∙ ap (λ b. fresh same more xs ++ fresh same b ys) (append_assoc before (x ∷ []) (fresh same more xs)) in
    elim (list_any (same x) before) as (λ b. (if b then fresh same before (xs ++ ys) else x ∷ fresh same more (xs ++ ys))
    ≡ (if b then fresh same before xs else x ∷ fresh same more xs)
    ++ fresh same (before ++ (if b then fresh same before xs else x ∷ fresh same more xs)) ys) [
      | true ↦ kept
      | false ↦ ap (λ l. x ∷ l) put
    ]

pub once-append : {A : Type 0} (same : A → A → Bool) (xs ys : List A) → once same (xs ++ ys) ≡ once same xs ++ fresh same (once same xs) ys
once-append same xs ys = fresh-append same [] xs ys

-- what comes behind lists that are the same, each once
pub once-front : {A : Type 0} (same : A → A → Bool) (xs ys zs : List A) → once same xs ≡ once same ys
    → once same (xs ++ zs) ≡ once same (ys ++ zs)
once-front same xs ys zs e = once-append same xs zs ∙ ap (λ l. l ++ fresh same l zs) e ∙ sym (once-append same ys zs)

-- ---- which elements there are

fresh-none : {A : Type 0} (same : A → A → Bool) (before xs : List A) → list_all (λ x. list_any (same x) before) xs ≡ true
    → fresh same before xs ≡ []
unfolding fresh
fresh-none same before [] all = refl
fresh-none same before (x ∷ xs) all =
    let p = and_parts (list_any (same x) before) (list_all (λ y. list_any (same y) before) xs) all in
    rw p.0 (fresh-none same before xs p.1)

regrouped : (a q r s : Bool) → ((a || (q || false)) || r) ≡ ((a || (q || false)) || s) → (a || (q || r)) ≡ (a || (q || s))
regrouped true q r s e = refl
regrouped false true r s e = refl
regrouped false false r s e = e

absorbed : (a q s : Bool) → (q ≡ true → a ≡ true) → (a || s) ≡ (a || (q || s))
absorbed true q s is = refl
absorbed false true s is = absurd (let no : false ≡ true = is refl in cc)
absorbed false false s is = refl

module _ {A : Type 0} (same : A → A → Bool) (exact : (x y : A) → same x y ≡ true → x ≡ y) where
  found : (test : A → Bool) (x : A) (before : List A) → list_any (same x) before ≡ true → test x ≡ true → list_any test before ≡ true
  found test x [] is passes = absurd cc
  found test x (y ∷ before) is passes =
      elim (or_cases (same x y) (list_any (same x) before) is) [
        | inl here ↦ or_left (test y) (list_any test before) (subst (λ z. test z ≡ true) (exact x y here) passes)
        | inr later ↦ or_right (test y) (list_any test before) (found test x before later passes)
      ]

  fresh-any : (test : A → Bool) (before xs : List A)
      → (list_any test before || list_any test (fresh same before xs)) ≡ (list_any test before || list_any test xs)
  unfolding fresh
  fresh-any test before [] = refl
  fresh-any test before (x ∷ xs) =
      by (list_any (same x) before) refl (fresh-any test before xs) (fresh-any test (before ++ x ∷ []) xs)
    where
      by : (b : Bool) → list_any (same x) before ≡ b
          → (list_any test before || list_any test (fresh same before xs)) ≡ (list_any test before || list_any test xs)
          → (list_any test (before ++ x ∷ []) || list_any test (fresh same (before ++ x ∷ []) xs))
          ≡ (list_any test (before ++ x ∷ []) || list_any test xs)
          → (list_any test before || list_any test (if b then fresh same before xs else x ∷ fresh same (before ++ x ∷ []) xs))
          ≡ (list_any test before || (test x || list_any test xs))
      by true is dropped kept = dropped ∙ absorbed (list_any test before) (test x) (list_any test xs) (found test x before is)
      by false is dropped kept =
          regrouped (list_any test before) (test x) (list_any test (fresh same (before ++ x ∷ []) xs)) (list_any test xs)
          (subst (λ (b : Bool). (b || list_any test (fresh same (before ++ x ∷ []) xs)) ≡ (b || list_any test xs))
          (list_any-append test before (x ∷ [])) kept)

  pub once-any : (test : A → Bool) (xs : List A) → list_any test (once same xs) ≡ list_any test xs
  once-any test xs = fresh-any test [] xs

  among-once : (xs ys : List A) → list_all (λ y. list_any (same y) xs) ys ≡ true → list_all (λ y. list_any (same y) (once same xs)) ys ≡ true
  among-once xs [] all = refl
  among-once xs (y ∷ ys) all =
      let p = and_parts (list_any (same y) xs) (list_all (λ z. list_any (same z) xs) ys) all in
      and_from (list_any (same y) (once same xs)) (list_all (λ z. list_any (same z) (once same xs)) ys) (once-any (same y) xs ∙ p.0)
      (among-once xs ys p.1)

  -- what stands there already, once more
  pub once-again : (xs ys : List A) → list_all (λ y. list_any (same y) xs) ys ≡ true → once same (xs ++ ys) ≡ once same xs
  once-again xs ys all =
      once-append same xs ys
      ∙ ap (λ l. once same xs ++ l) (fresh-none same (once same xs) ys (among-once xs ys all))
      ∙ append-nil (once same xs)

-- ---- parts of lists

module _ {A : Type 0} (same : A → A → Bool) (itself : (x : A) → same x x ≡ true) where
  pub all-among : (ys zs : List A) → ((y : A) → list_any (same y) ys ≡ true → list_any (same y) zs ≡ true)
      → list_all (λ y. list_any (same y) zs) ys ≡ true
  all-among [] zs within = refl
  all-among (y ∷ ys) zs within =
      and_from (list_any (same y) zs) (list_all (λ x. list_any (same x) zs) ys)
      (within y (or_left (same y y) (list_any (same y) ys) (itself y)))
      (all-among ys zs (λ x is. within x (or_right (same x y) (list_any (same x) ys) is)))
