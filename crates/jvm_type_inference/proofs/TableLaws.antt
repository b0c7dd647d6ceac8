-- The table from offsets to lines, made from the last line to the first.
use Rattle.std.proofs.Common.{◌≡◌, ℕ, zero, suc, ◌<◌, ◌≤◌, Bool, true, false, List, [], ◌∷◌, ◌++◌, length, get_or, set, replicate, refl, sym, ap, subst, ◌∙◌, Option, Some, None, arith, ⊎_elim, ◌⊎◌, append_assoc}
use Rattle.std.specs.Prelude.{slice_get, option_and_then, if◌then◌else◌, nat_eq}
use Rattle.std.proofs.lemmas.Bool.{cases_eq, cases_lt, cond-true, cond-false, eq-eqb, ne_eqb}
use Rattle.std.proofs.lemmas.List.{get_or-set_same, get_or-set_other, length-set}
use Rattle.std.proofs.lemmas.Option.{none-some}
use Rattle.jvm_definition.specs.declared.linked_line.LinkedLine.{LinkedLine}
use Rattle.jvm_definition.specs.Program.{line_in}
use Rattle.jvm_type_inference.specs.Flow.{line_by}

-- the table of the lines behind some
pub record IsTableFrom (lines rest : List LinkedLine) (starts : List (Option ℕ)) (size : ℕ) : Type 0 where
  pub behind : List LinkedLine
  pub whole : lines ≡ rest ++ behind
  pub finds : (at : ℕ) → line_by lines starts at ≡ line_in behind at
  pub size_is : length starts ≡ size

pub none-of : {X : Type 0} (n at : ℕ) (d : X) → get_or (replicate n d) at d ≡ d
none-of zero at d = refl
none-of (suc n) zero d = refl
none-of (suc n) (suc at) d = none-of n at d

found-step : (b : Bool) (x : LinkedLine) (o : Option LinkedLine) → (o ≡ None → ⊥) → (if b then Some x else o) ≡ None → ⊥
found-step true x o next e = none-some x (sym e)
found-step false x o next e = next e

line_in-found : (xs : List LinkedLine) (l : LinkedLine) (ys : List LinkedLine) → line_in (xs ++ l ∷ ys) l.at ≡ None → ⊥
line_in-found [] l ys e = none-some l (sym e ∙ cond-true (nat_eq l.at l.at) (Some l) (line_in ys l.at) (eq-eqb l.at l.at refl))
line_in-found (x ∷ xs) l ys e = found-step (nat_eq x.at l.at) x (line_in (xs ++ l ∷ ys) l.at) (line_in-found xs l ys) e

slice_get-at : {X : Type 0} (xs : List X) (x : X) (ys : List X) → slice_get (xs ++ x ∷ ys) (length xs) ≡ Some x
slice_get-at [] x ys = refl
slice_get-at (y ∷ xs) x ys = slice_get-at xs x ys

pub within-table : (lines rest others : List LinkedLine) (l : LinkedLine) (starts : List (Option ℕ)) (size : ℕ) → IsTableFrom lines rest starts size → rest ≡ others ++ l ∷ [] → ((at : ℕ) → size ≤ at → line_in lines at ≡ None) → l.at < length starts
within-table lines rest others l starts size t e ends = by-order (cases_lt l.at size)
  where
    lines-are : lines ≡ others ++ l ∷ t.behind
    lines-are = t.whole ∙ (ap (λ x. x ++ t.behind) e ∙ append_assoc others (l ∷ []) t.behind)

    by-order : (l.at < size) ⊎ (size ≤ l.at) → l.at < length starts
    by-order h =
        ⊎_elim
        (λ less. omega (arith, less, t.size_is))
        (λ more. absurd (line_in-found others l t.behind (subst (λ x. line_in x l.at ≡ None) lines-are (ends l.at more))))
        h

pub next-table : (lines rest others : List LinkedLine) (l : LinkedLine) (starts : List (Option ℕ)) (size : ℕ) → IsTableFrom lines rest starts size → rest ≡ others ++ l ∷ [] → l.at < length starts → IsTableFrom lines others (set starts l.at (Some (length others))) size
next-table lines rest others l starts size t e inside = record {
  behind = l ∷ t.behind;
  whole = lines-are;
  finds = λ at. ⊎_elim (here at) (there at) (cases_eq at l.at);
  size_is = length-set starts l.at (Some (length others)) ∙ t.size_is;
}
  where
    lines-are : lines ≡ others ++ l ∷ t.behind
    lines-are = t.whole ∙ (ap (λ x. x ++ t.behind) e ∙ append_assoc others (l ∷ []) t.behind)

    after : List (Option ℕ)
    after = set starts l.at (Some (length others))

    here : (at : ℕ) → at ≡ l.at → line_by lines (set starts l.at (Some (length others))) at ≡ line_in (l ∷ t.behind) at
    here at is =
        ap (option_and_then (slice_get lines)) (ap (λ k. get_or (set starts l.at (Some (length others))) k None) is ∙ get_or-set_same starts l.at (Some (length others)) None inside)
        ∙ (ap (λ x. slice_get x (length others)) lines-are
        ∙ (slice_get-at others l t.behind
        ∙ sym (cond-true (nat_eq l.at at) (Some l) (line_in t.behind at) (eq-eqb l.at at (sym is)))))

    there : (at : ℕ) → (at ≡ l.at → ⊥) → line_by lines (set starts l.at (Some (length others))) at ≡ line_in (l ∷ t.behind) at
    there at is =
        ap (option_and_then (slice_get lines)) (get_or-set_other starts l.at at (Some (length others)) None is)
        ∙ (t.finds at
        ∙ sym (cond-false (nat_eq l.at at) (Some l) (line_in t.behind at) (ne_eqb l.at at (λ q. is (sym q)))))
