-- Spans that rise and reach as far as the furthest before them.
use Rattle.std.proofs.Common.{◌≡◌, ℕ, zero, suc, ◌+◌, ◌-◌, ◌<◌, ◌≤◌, Bool, true, false, ◌&&◌, ◌||◌, nat_le, max, List, [], ◌∷◌, ◌++◌, length, get_or, drop, refl, sym, ap, ◌∙◌, append_assoc, subst, Some, None, IsPermutation, inl, inr, arith}
use Rattle.std.specs.List.Sorted.{IsNonDecreasingBy}
use Rattle.std.proofs.lemmas.Bool.{cases_Bool, cases_lt, leb-false, and_from, le-leb}
use Rattle.std.proofs.lemmas.Bool.Decides.{nat_tests}
use Rattle.std.proofs.lemmas.List.{at_drop_more, at_drop_all, get_or_default}
use Rattle.std.proofs.lemmas.List.Sorted.{All-permutation}
use Rattle.std.proofs.lemmas.List.Folds.{list_any_at, list_any_none}
use Rattle.elf_reader.specs.declared.span.Span.{Span}
use Rattle.elf_reader.specs.Spans.{are_within, AreRising, AreFilled, IsLeastFrom}

-- each span with the furthest end up to it, where m was reached before
abbrev pub reach_from : ℕ → List Span → List Span
reach_from m [] = []
reach_from m (s ∷ rest) = record { first = s.first; end = max s.end m } ∷ reach_from (max s.end m) rest

-- one step of the loop, and its end
reach_more_max : (out pushed all ss : List Span) (m i : ℕ) (d : Span) → i < length ss
    → out ++ reach_from m (drop i ss) ≡ all
    → pushed ≡ out ++ record { first = (get_or ss i d).first; end = max (get_or ss i d).end m } ∷ []
    → pushed ++ reach_from (max (get_or ss i d).end m) (drop (i + 1) ss) ≡ all
reach_more_max out pushed all ss m i d within before is_pushed =
    let s = get_or ss i d in
    let one : List Span = record { first = s.first; end = max s.end m } ∷ [] in
    let rest = reach_from (max s.end m) (drop (i + 1) ss) in
    ap (λ xs. xs ++ rest) is_pushed
    ∙ append_assoc out one rest
    ∙ sym (ap (λ xs. out ++ xs) (at_drop_more (reach_from m) ss i d within))
    ∙ before

pub reach_more : (out pushed all ss : List Span) (m i f : ℕ) (d : Span) → i < length ss
    → out ++ reach_from m (drop i ss) ≡ all
    → f ≡ max (get_or ss i d).end m
    → pushed ≡ out ++ record { first = (get_or ss i d).first; end = f } ∷ []
    → pushed ++ reach_from f (drop (i + 1) ss) ≡ all
reach_more out pushed all ss m i f d within before is_furthest is_pushed =
    ap (λ e. pushed ++ reach_from e (drop (i + 1) ss)) is_furthest
    ∙ reach_more_max out pushed all ss m i d within before
    (is_pushed ∙ ap (λ e. out ++ record { first = (get_or ss i d).first; end = e } ∷ []) is_furthest)

reach_all : (out all ss : List Span) (m i : ℕ) → length ss ≤ i → out ++ reach_from m (drop i ss) ≡ all → out ++ [] ≡ all
reach_all out all ss m i past before = sym (ap (λ xs. out ++ xs) (at_drop_all (reach_from m) ss i past)) ∙ before

length-reach : (m : ℕ) (ss : List Span) → length (reach_from m ss) ≡ length ss
length-reach m [] = refl
length-reach m (s ∷ rest) = ap (λ n. suc n) (length-reach (max s.end m) rest)

reach_first : (m : ℕ) (ss : List Span) (k : ℕ) (d : Span) → (get_or (reach_from m ss) k d).first ≡ (get_or ss k d).first
reach_first m [] k d = refl
reach_first m (s ∷ rest) zero d = refl
reach_first m (s ∷ rest) (suc k) d = reach_first (max s.end m) rest k d

reach_above : (m : ℕ) (ss : List Span) (k : ℕ) (d : Span) → k < length ss → m ≤ (get_or (reach_from m ss) k d).end
reach_above m [] k d within = absurd (omega (arith, within))
reach_above m (s ∷ rest) zero d within = omega arith
reach_above m (s ∷ rest) (suc k) d within =
    let further = reach_above (max s.end m) rest k d (omega (arith, within)) in
    omega (arith, further)

reach_ends : (m : ℕ) (ss : List Span) (i j : ℕ) (d : Span) → i ≤ j → j < length ss
    → (get_or (reach_from m ss) i d).end ≤ (get_or (reach_from m ss) j d).end
reach_ends m [] i j d le within = absurd (omega (arith, within))
reach_ends m (s ∷ rest) zero zero d le within = omega arith
reach_ends m (s ∷ rest) zero (suc j) d le within = reach_above (max s.end m) rest j d (omega (arith, within))
reach_ends m (s ∷ rest) (suc i) zero d le within = absurd (omega (arith, le))
reach_ends m (s ∷ rest) (suc i) (suc j) d le within = reach_ends (max s.end m) rest i j d (omega (arith, le)) (omega (arith, within))

reach_rises : (ss : List Span) → IsNonDecreasingBy (λ (s : Span). s.first) ss → AreRising (reach_from 0 ss)
reach_rises ss rise = record {
  firsts = λ i j d le within. rw (reach_first 0 ss i d, reach_first 0 ss j d) (rise i j d le (omega (arith, within, length-reach 0 ss)));
  ends = λ i j d le within. reach_ends 0 ss i j d le (omega (arith, within, length-reach 0 ss));
}

or_step : (x ra sa s y : Bool) → (ra || x) ≡ (sa || x) → (x || y) ≡ (s || y) → ((x || ra) || y) ≡ ((s || sa) || y)
or_step true ra sa true y p q = refl
or_step true ra true false y p q = refl
or_step true ra false false y p q = q
or_step false ra sa s true p q = grind arith
or_step false ra sa true false p q = grind arith
or_step false ra sa false false p q = grind arith

reach_within : (m b : ℕ) (first behind : ℕ) (ss : List Span) → IsNonDecreasingBy (λ (s : Span). s.first) ss
    → ((k : ℕ) (d : Span) → k < length ss → b ≤ (get_or ss k d).first)
    → (are_within first behind (reach_from m ss) || (nat_le b first && nat_le behind m))
    ≡ (are_within first behind ss || (nat_le b first && nat_le behind m))
reach_within m b first behind [] rise after = refl
reach_within m b first behind (s ∷ rest) rise after =
    let rest_same = reach_within (max s.end m) s.first first behind rest
    (λ i j d le within. rise (suc i) (suc j) d (omega (arith, le)) (omega (arith, within)))
    (λ k d within. rise 0 (suc k) d (omega arith) (omega (arith, within))) in
    or_step _ (are_within first behind (reach_from (max s.end m) rest)) (are_within first behind rest) _ _ rest_same
    (here b s.first first behind s.end m (after 0 s (omega arith)))
  where
    here : (b f first behind e m : ℕ) → b ≤ f
        → ((nat_le f first && nat_le behind (max e m)) || (nat_le b first && nat_le behind m))
        ≡ ((nat_le f first && nat_le behind e) || (nat_le b first && nat_le behind m))
    here b f first behind e m le = grind (arith, nat_tests)

or_false : (x y : Bool) → y ≡ false → (x || y) ≡ x
or_false true y e = refl
or_false false y e = e

reach_same : (ss : List Span) (first behind : ℕ) → IsNonDecreasingBy (λ (s : Span). s.first) ss → first < behind
    → are_within first behind (reach_from 0 ss) ≡ are_within first behind ss
reach_same ss first behind rise some =
    let out : (nat_le 0 first && nat_le behind 0) ≡ false = grind (arith, nat_tests) in
    sym (or_false _ _ out)
    ∙ reach_within 0 0 first behind ss rise (λ k d within. omega arith)
    ∙ or_false _ _ out

begins_after : (f first behind e : ℕ) → first < f → (nat_le f first && nat_le behind e) ≡ false
begins_after f first behind e lt = grind (arith, nat_tests)

ends_before : (f first behind e : ℕ) → e < behind → (nat_le f first && nat_le behind e) ≡ false
ends_before f first behind e lt = grind (arith, nat_tests)

-- the last span that has begun tells whether one holds the numbers
pub within_at : (ss : List Span) (k : ℕ) (d : Span) (first behind : ℕ) → AreRising ss → 0 < k → k ≤ length ss
    → ((j : ℕ) (d : Span) → j < k → (get_or ss j d).first ≤ first)
    → ((j : ℕ) (d : Span) → k ≤ j → j < length ss → first < (get_or ss j d).first)
    → nat_le behind (get_or ss (k - 1) d).end ≡ are_within first behind ss
within_at ss k d first behind rise some le begun later =
    elim (cases_Bool (nat_le behind (get_or ss (k - 1) d).end)) [
      | inl ends ↦ ends ∙ sym (list_any_at _ ss (k - 1) d (omega arith)
          (and_from _ _ (le-leb _ _ (begun (k - 1) d (omega arith))) ends))
      | inr short ↦ short ∙ sym (list_any_none _ ss (λ j e within. none j e within short))
    ]
  where
    none : (j : ℕ) (e : Span) → j < length ss → nat_le behind (get_or ss (k - 1) d).end ≡ false
        → (nat_le (get_or ss j e).first first && nat_le behind (get_or ss j e).end) ≡ false
    none j e within short =
        elim (cases_lt j k) [
          | inl lt ↦
              let up = rise.ends j (k - 1) e (omega arith) (omega arith) in
              let same = ap (λ (s : Span). s.end) (get_or_default ss (k - 1) d e (omega arith)) in
              let past = leb-false _ _ short in
              ends_before (get_or ss j e).first first behind (get_or ss j e).end (omega (arith, up, same, past))
          | inr ge ↦ begins_after (get_or ss j e).first first behind (get_or ss j e).end (later j e ge within)
        ]

pub within_none : (ss : List Span) (k : ℕ) (first behind : ℕ) → k ≡ 0
    → ((j : ℕ) (d : Span) → k ≤ j → j < length ss → first < (get_or ss j d).first)
    → false ≡ are_within first behind ss
within_none ss k first behind is_none later =
    sym (list_any_none _ ss (λ j d within. begins_after (get_or ss j d).first first behind (get_or ss j d).end (later j d (omega arith) within)))

-- what a loop's last reaches are
pub reach_done : (out all ss : List Span) (m i : ℕ) → length ss ≤ i → out ++ reach_from m (drop i ss) ≡ all → out ≡ all
reach_done out all ss m i past before = sym (append_nil out) ∙ reach_all out all ss m i past before
  where
    append_nil : (xs : List Span) → xs ++ [] ≡ xs
    append_nil [] = refl
    append_nil (x ∷ xs) = ap (λ ys. x ∷ ys) (append_nil xs)

pub rises_done : (out ss : List Span) → out ≡ reach_from 0 ss → IsNonDecreasingBy (λ (s : Span). s.first) ss → AreRising out
rises_done out ss done rise = let P : List Span → Type 0 = λ xs. AreRising xs in subst P (sym done) (reach_rises ss rise)

pub same_done : (out ss : List Span) (first behind : ℕ) → out ≡ reach_from 0 ss → IsNonDecreasingBy (λ (s : Span). s.first) ss
    → first < behind → are_within first behind out ≡ are_within first behind ss
same_done out ss first behind done rise some = ap (are_within first behind) done ∙ reach_same ss first behind rise some

-- each span reaches at least to its own end
reach_filled : (m : ℕ) (ss : List Span) → AreFilled ss → AreFilled (reach_from m ss)
reach_filled m [] filled k d within = absurd (omega (arith, within))
reach_filled m (s ∷ rest) filled zero d within =
    let some = filled 0 s (omega arith) in
    omega (arith, some)
reach_filled m (s ∷ rest) filled (suc k) d within =
    reach_filled (max s.end m) rest (λ j e inside. filled (suc j) e (omega (arith, inside))) k d (omega (arith, within))

pub filled_done : (out ss : List Span) → out ≡ reach_from 0 ss → AreFilled ss → AreFilled out
filled_done out ss done filled = let P : List Span → Type 0 = λ xs. AreFilled xs in subst P (sym done) (reach_filled 0 ss filled)

pub filled_moved : (spans sorted given : List Span) → IsPermutation spans sorted → given ≡ sorted → AreFilled spans → AreFilled given
filled_moved spans sorted given moved is_given filled =
    let P : List Span → Type 0 = λ xs. AreFilled xs in
    subst P (sym is_given) (All-permutation (λ (s : Span). s.first < s.end) spans sorted moved filled)

-- nothing from the number on lies in a span that has begun, where the last of these is over
passed : (ss : List Span) (k at n : ℕ) → AreRising ss → k ≤ length ss
    → ((d : Span) → 0 < k → (get_or ss (k - 1) d).end ≤ at) → at ≤ n
    → (j : ℕ) (e : Span) → j < k → (nat_le (get_or ss j e).first n && nat_le (n + 1) (get_or ss j e).end) ≡ false
passed ss k at n rise le over from j e lt =
    let up = rise.ends j (k - 1) e (omega arith) (omega arith) in
    let past = over e (omega arith) in
    ends_before (get_or ss j e).first n (n + 1) (get_or ss j e).end (omega (arith, up, past))

over_any : (ss : List Span) (k at : ℕ) (d : Span) → k ≤ length ss → (0 < k → (get_or ss (k - 1) d).end ≤ at)
    → (e : Span) → 0 < k → (get_or ss (k - 1) e).end ≤ at
over_any ss k at d le over e some =
    let same = ap (λ (s : Span). s.end) (get_or_default ss (k - 1) d e (omega arith)) in
    let past = over some in
    omega (arith, same, past)

-- no span begins later
pub next_none : (ss : List Span) (k at : ℕ) (d : Span) → AreRising ss → k ≤ length ss → length ss ≤ k
    → (0 < k → (get_or ss (k - 1) d).end ≤ at)
    → IsLeastFrom at (λ n. are_within n (n + 1) ss) None
next_none ss k at d rise le past over = λ n from.
    list_any_none _ ss (λ j e within. passed ss k at n rise le (over_any ss k at d le over) from j e (omega (arith, within, past)))

-- the first number of the next span
pub next_later : (ss : List Span) (k at : ℕ) (c d : Span) → AreRising ss → AreFilled ss → k < length ss
    → (0 < k → (get_or ss (k - 1) d).end ≤ at)
    → ((j : ℕ) (e : Span) → k ≤ j → j < length ss → at < (get_or ss j e).first)
    → IsLeastFrom at (λ n. are_within n (n + 1) ss) (Some (get_or ss k c).first)
next_later ss k at c d rise filled lt over later =
    let begins = later k c (omega arith) lt in
    let some = filled k c lt in (
      omega (arith, begins),
      list_any_at _ ss k c lt (and_from _ _ (le-leb (get_or ss k c).first (get_or ss k c).first (omega arith)) (le-leb ((get_or ss k c).first + 1) (get_or ss k c).end (omega (arith, some)))),
      λ m from below. list_any_none _ ss (λ j e within.
          elim (cases_lt j k) [
            | inl before ↦ passed ss k at m rise (omega arith) (over_any ss k at d (omega arith) over) from j e before
            | inr after ↦
                let same = ap (λ (s : Span). s.first) (get_or_default ss k c e lt) in
                let up = rise.firsts k j e after within in
                begins_after (get_or ss j e).first m (m + 1) (get_or ss j e).end (omega (arith, same, up, below))
          ]),
    )
