-- Where the arrays of a region stand, and what a new array, another value and a release change.
use Rattle.std.proofs.Common.{◌≡◌, ◌≢◌, ℕ, ◌+◌, ◌<◌, ◌≤◌, ◌^◌, Bool, true, false, cond, eqb, ltb, List, [], ◌∷◌, ◌++◌, length, set, take, Option, Some, None, refl, ap, sym, ◌∙◌, arith, zero, suc, inl, inr, add-zero, subst}
use Rattle.std.specs.Option.{IsSome, option_map}
use Rattle.std.specs.List.{slice_get}
use Rattle.std.proofs.lemmas.Bool.{false≢true, cases_eq, cases_lt, eq-eqb, ne_eqb, lt-ltb, le-ltb, cond_both}
use Rattle.std.proofs.lemmas.List.{length-set, length-append, length-replicate, take_at, take_all, take-take, take-append-le}
use Rattle.int_region.specs.Arrays.{Block, Contents, weight, used_by, array_from, array_at, IsLive, kind_in, values_in, kind_at, values_at, zeros, with_element, with_value_from, with_value, IsMark, IsSound}

-- two tests of a number, in one order and the other
tests_swap : (q m n : ℕ) (x y z : Option Block) → m ≢ n → cond (eqb q m) x (cond (eqb q n) y z) ≡ cond (eqb q n) y (cond (eqb q m) x z)
tests_swap q m n x y z apart = elim (cases_eq q m) [
  | inl same ↦
      let other : eqb q n ≡ false = ne_eqb q n (λ e. apart (sym same ∙ e)) in
      let here : eqb q m ≡ true = eq-eqb q m same in
      simp (other, here) refl
  | inr other ↦ let not_here : eqb q m ≡ false = ne_eqb q m other in simp not_here refl
]

tests_join : (q p first : ℕ) (x y z : Option Block) → p ≡ first → cond (eqb q p) x z ≡ cond (eqb q p) x (cond (eqb q first) y z)
tests_join q p first x y z same = elim (cases_eq q p) [
  | inl here ↦ let t : eqb q p ≡ true = eq-eqb q p here in simp t refl
  | inr other ↦ let t : eqb q first ≡ false = ne_eqb q first (λ e. other (e ∙ sym same)) in simp t refl
]

tests_cross : (q first end : ℕ) (x y : Option Block) → first < end → cond (eqb q first) x (cond (ltb q end) y None) ≡ cond (ltb q end) (cond (eqb q first) x y) None
tests_cross q first end x y h = elim (cases_eq q first) [
  | inl same ↦
      let t : eqb q first ≡ true = eq-eqb q first same in
      let u : ltb q end ≡ true = lt-ltb q end (omega arith) in
      simp (t, u) refl
  | inr other ↦ let t : eqb q first ≡ false = ne_eqb q first other in simp t refl
]

test_same : (t : Bool) (x : Option Block) → cond t x x ≡ x
test_same true x = refl
test_same false x = refl

-- the first of a list, and what comes after it
array_from-first : (b : Block) (rest : List Block) (first p : ℕ) → p ≡ first → array_from first (b ∷ rest) p ≡ Some b
array_from-first b rest first p same = ap (λ t. cond t (Some b) (array_from (first + weight b) rest p)) (eq-eqb p first same)

array_from-later : (b : Block) (rest : List Block) (first p : ℕ) → p ≢ first → array_from first (b ∷ rest) p ≡ array_from (first + weight b) rest p
array_from-later b rest first p other = ap (λ t. cond t (Some b) (array_from (first + weight b) rest p)) (ne_eqb p first other)

with_value_from-first : (b : Block) (rest : List Block) (first p i v : ℕ) → p ≡ first → with_value_from first (b ∷ rest) p i v ≡ with_element i v b ∷ rest
with_value_from-first b rest first p i v same =
    ap (λ t. cond t (with_element i v b ∷ rest) (b ∷ with_value_from (first + weight b) rest p i v)) (eq-eqb p first same)

with_value_from-later : (b : Block) (rest : List Block) (first p i v : ℕ) → p ≢ first → with_value_from first (b ∷ rest) p i v ≡ b ∷ with_value_from (first + weight b) rest p i v
with_value_from-later b rest first p i v other =
    ap (λ t. cond t (with_element i v b ∷ rest) (b ∷ with_value_from (first + weight b) rest p i v)) (ne_eqb p first other)

-- nothing stands before the first
array_from-below : (arrays : List Block) (first p : ℕ) → p < first → array_from first arrays p ≡ None
array_from-below [] first p h = refl
array_from-below (b ∷ rest) first p h =
    array_from-later b rest first p (λ e. absurd (omega arith)) ∙ array_from-below rest (first + weight b) p (omega arith)

not_below : (arrays : List Block) (first p : ℕ) → IsSome (array_from first arrays p) → first ≤ p
not_below arrays first p live = elim (cases_lt p first) [
  | inl less ↦ absurd (false≢true (subst IsSome (array_from-below arrays first p less) live))
  | inr past ↦ past
]

-- an array that stands at a place comes after some that use the words before it
pub record Stands (arrays : List Block) (first p : ℕ) : Type 0 where
  pub before : List Block
  pub here : Block
  pub after : List Block
  pub is : arrays ≡ before ++ here ∷ after
  pub place : first + used_by before ≡ p
  pub found : array_from first arrays p ≡ Some here
  pub written : (i v : ℕ) → with_value_from first arrays p i v ≡ before ++ with_element i v here ∷ after

pub stands : (arrays : List Block) (first p : ℕ) → IsSome (array_from first arrays p) → Stands arrays first p
stands [] first p live = absurd (false≢true live)
stands (b ∷ rest) first p live = elim (cases_eq p first) [
  | inl same ↦ record {
    before = [];
    here = b;
    after = rest;
    is = refl;
    place = omega arith;
    found = array_from-first b rest first p same;
    written = λ i v. with_value_from-first b rest first p i v same;
  }
  | inr other ↦
      let s = stands rest (first + weight b) p (subst IsSome (array_from-later b rest first p other) live) in
      record {
        before = b ∷ s.before;
        here = s.here;
        after = s.after;
        is = ap (λ l. b ∷ l) s.is;
        place = omega (arith, s.place);
        found = array_from-later b rest first p other ∙ s.found;
        written = λ i v. with_value_from-later b rest first p i v other ∙ ap (λ l. b ∷ l) (s.written i v);
      }
]

-- how many words lists of arrays use
pub used_by-append : (before after : List Block) → used_by (before ++ after) ≡ used_by before + used_by after
used_by-append [] after = omega arith
used_by-append (b ∷ before) after = omega (arith, used_by-append before after)

pub used_by-added : (arrays : List Block) (b : Block) → used_by (arrays ++ b ∷ []) ≡ used_by arrays + weight b
used_by-added arrays b = omega (arith, used_by-append arrays (b ∷ []))

pub used_by-take : (k : ℕ) (arrays : List Block) → used_by (take k arrays) ≤ used_by arrays
used_by-take zero arrays = omega arith
used_by-take (suc k) [] = omega arith
used_by-take (suc k) (b ∷ rest) = omega (arith, used_by-take k rest)

weight-with_element : (i v : ℕ) (b : Block) → weight (with_element i v b) ≡ weight b
weight-with_element i v b = omega (arith, length-set b.values i v)

used_by-with_value_from : (arrays : List Block) (first p i v : ℕ) → used_by (with_value_from first arrays p i v) ≡ used_by arrays
used_by-with_value_from [] first p i v = refl
used_by-with_value_from (b ∷ rest) first p i v = elim (cases_eq p first) [
  | inl same ↦ ap used_by (with_value_from-first b rest first p i v same) ∙ omega (arith, weight-with_element i v b)
  | inr other ↦
      ap used_by (with_value_from-later b rest first p i v other)
      ∙ omega (arith, used_by-with_value_from rest (first + weight b) p i v)
]

pub used_by-with_value : (arrays : List Block) (p i v : ℕ) → used_by (with_value arrays p i v) ≡ used_by arrays
used_by-with_value arrays p i v = used_by-with_value_from arrays 0 p i v

-- a new array stands where the words of the others end, and no other place changes
array_from-added : (arrays : List Block) (first : ℕ) (b : Block) (q : ℕ) → array_from first (arrays ++ b ∷ []) q ≡ cond (eqb q (first + used_by arrays)) (Some b) (array_from first arrays q)
array_from-added [] first b q = rw add-zero refl
array_from-added (a ∷ rest) first b q =
    let later = array_from-added rest (first + weight a) b q in
    let sums : first + weight a + used_by rest ≡ first + used_by (a ∷ rest) = omega arith in
    ap (λ o. cond (eqb q first) (Some a) o) (later ∙ ap (λ n. cond (eqb q n) (Some b) (array_from (first + weight a) rest q)) sums)
    ∙ tests_swap q first (first + used_by (a ∷ rest)) (Some a) (Some b) (array_from (first + weight a) rest q) (λ e. absurd (omega arith))

zero_first : (n : ℕ) → 0 + n ≡ n
zero_first n = omega arith

pub array_at-added : (arrays : List Block) (b : Block) (q : ℕ) → array_at (arrays ++ b ∷ []) q ≡ cond (eqb q (used_by arrays)) (Some b) (array_at arrays q)
array_at-added arrays b q =
    array_from-added arrays 0 b q ∙ ap (λ n. cond (eqb q n) (Some b) (array_at arrays q)) (zero_first (used_by arrays))

pub array_at-last : (arrays : List Block) (b : Block) (p : ℕ) → used_by arrays ≡ p → array_at (arrays ++ b ∷ []) p ≡ Some b
array_at-last arrays b p e = array_at-added arrays b p ∙ ap (λ t. cond t (Some b) (array_at arrays p)) (eq-eqb p (used_by arrays) (sym e))

-- another value changes the array at its place, and no other place
array_from-with_value : (arrays : List Block) (first p i v q : ℕ) → array_from first (with_value_from first arrays p i v) q ≡ cond (eqb q p) (option_map (with_element i v) (array_from first arrays p)) (array_from first arrays q)
array_from-with_value [] first p i v q = sym (test_same (eqb q p) None)
array_from-with_value (b ∷ rest) first p i v q = elim (cases_eq p first) [
  | inl same ↦
      let later = array_from (first + weight b) rest q in
      ap (λ l. array_from first l q) (with_value_from-first b rest first p i v same)
      ∙ (ap (λ w. cond (eqb q first) (Some (with_element i v b)) (array_from (first + w) rest q)) (weight-with_element i v b)
      ∙ (ap (λ n. cond (eqb q n) (Some (with_element i v b)) later) (sym same)
      ∙ (tests_join q p first (Some (with_element i v b)) (Some b) later same
      ∙ ap (λ o. cond (eqb q p) (option_map (with_element i v) o) (array_from first (b ∷ rest) q)) (sym (array_from-first b rest first p same)))))
  | inr other ↦
      ap (λ l. array_from first l q) (with_value_from-later b rest first p i v other)
      ∙ (ap (λ o. cond (eqb q first) (Some b) o) (array_from-with_value rest (first + weight b) p i v q)
      ∙ (tests_swap q first p (Some b) (option_map (with_element i v) (array_from (first + weight b) rest p)) (array_from (first + weight b) rest q) (λ e. other (sym e))
      ∙ ap (λ o. cond (eqb q p) (option_map (with_element i v) o) (array_from first (b ∷ rest) q)) (sym (array_from-later b rest first p other))))
]

pub array_at-with_value : (arrays : List Block) (p i v q : ℕ) → array_at (with_value arrays p i v) q ≡ cond (eqb q p) (option_map (with_element i v) (array_at arrays p)) (array_at arrays q)
array_at-with_value arrays p i v q = array_from-with_value arrays 0 p i v q

-- of the first arrays, those that stand below the words that they use
array_from-take : (k : ℕ) (arrays : List Block) (first q : ℕ) → array_from first (take k arrays) q ≡ cond (ltb q (first + used_by (take k arrays))) (array_from first arrays q) None
array_from-take zero arrays first q = elim (cases_lt q first) [
  | inl less ↦ sym (ap (λ o. cond (ltb q (first + 0)) o None) (array_from-below arrays first q less) ∙ test_same (ltb q (first + 0)) None)
  | inr past ↦ sym (ap (λ t. cond t (array_from first arrays q) None) (le-ltb q (first + 0) (omega arith)))
]
array_from-take (suc k) [] first q = sym (test_same (ltb q (first + 0)) None)
array_from-take (suc k) (b ∷ rest) first q =
    let later = array_from-take k rest (first + weight b) q in
    let end = first + used_by (b ∷ take k rest) in
    let sums : first + weight b + used_by (take k rest) ≡ end = omega arith in
    ap (λ o. cond (eqb q first) (Some b) o) (later ∙ ap (λ n. cond (ltb q n) (array_from (first + weight b) rest q) None) sums)
    ∙ tests_cross q first end (Some b) (array_from (first + weight b) rest q) (omega arith)

pub array_at-take : (arrays : List Block) (k q : ℕ) → array_at (take k arrays) q ≡ cond (ltb q (used_by (take k arrays))) (array_at arrays q) None
array_at-take arrays k q =
    array_from-take k arrays 0 q ∙ ap (λ n. cond (ltb q n) (array_at arrays q) None) (zero_first (used_by (take k arrays)))

-- live arrays lie within the words in use, and no two have a word in common
pub live_within : (arrays : List Block) (p : ℕ) → IsLive arrays p → p + (length (values_at arrays p) + 2) ≤ used_by arrays
live_within arrays p live =
    let s = stands arrays 0 p live in
    omega (arith, s.place, ap used_by s.is, used_by-append s.before (s.here ∷ s.after), ap (λ o. length (values_in o)) s.found)

live_apart_from : (arrays : List Block) (first p q : ℕ) → IsSome (array_from first arrays p) → IsSome (array_from first arrays q) → p < q → p + (length (values_in (array_from first arrays p)) + 2) ≤ q
live_apart_from [] first p q here there h = absurd (false≢true here)
live_apart_from (b ∷ rest) first p q here there h =
    let low = not_below (b ∷ rest) first p here in
    let later : q ≢ first = λ e. absurd (omega arith) in
    let there_later = subst IsSome (array_from-later b rest first q later) there in
    elim (cases_eq p first) [
      | inl same ↦
          let n : length (values_in (array_from first (b ∷ rest) p)) ≡ length b.values = ap (λ o. length (values_in o)) (array_from-first b rest first p same) in
          omega (arith, not_below rest (first + weight b) q there_later)
      | inr other ↦
          let move = array_from-later b rest first p other in
          let n : length (values_in (array_from first (b ∷ rest) p)) ≡ length (values_in (array_from (first + weight b) rest p)) = ap (λ o. length (values_in o)) move in
          omega (arith, live_apart_from rest (first + weight b) p q (subst IsSome move here) there_later h)
    ]

pub live_apart : (arrays : List Block) (p q : ℕ) → IsLive arrays p → IsLive arrays q → p < q → p + (length (values_at arrays p) + 2) ≤ q
live_apart arrays p q here there h = live_apart_from arrays 0 p q here there h

there_at : (o : Option Block) → IsSome o → o ≡ Some (record { kind = kind_in o; values = values_in o })
there_at None h = absurd (false≢true h)
there_at (Some b) h = refl

pub there : (arrays : List Block) (p : ℕ) → IsLive arrays p → array_at arrays p ≡ Some (record { kind = kind_at arrays p; values = values_at arrays p })
there arrays p live = there_at (array_at arrays p) live

none_unless : (o : Option Block) → (IsSome o → ⊥) → o ≡ None
none_unless None h = refl
none_unless (Some b) h = absurd (h refl)

pub none_at_end : (arrays : List Block) → array_at arrays (used_by arrays) ≡ None
none_at_end arrays = none_unless (array_at arrays (used_by arrays)) (λ live. omega (arith, live_within arrays (used_by arrays) live))

-- the places of other arrays
pub array_at-added_other : (arrays : List Block) (b : Block) (p : ℕ) → IsLive arrays p → array_at (arrays ++ b ∷ []) p ≡ array_at arrays p
array_at-added_other arrays b p live =
    let inside = live_within arrays p live in
    array_at-added arrays b p ∙ ap (λ t. cond t (Some b) (array_at arrays p)) (ne_eqb p (used_by arrays) (λ e. omega arith))

pub array_at-with_value_here : (arrays : List Block) (p i v : ℕ) → IsLive arrays p → array_at (with_value arrays p i v) p ≡ Some (record { kind = kind_at arrays p; values = set (values_at arrays p) i v })
array_at-with_value_here arrays p i v live =
    array_at-with_value arrays p i v p
    ∙ (ap (λ t. cond t (option_map (with_element i v) (array_at arrays p)) (array_at arrays p)) (eq-eqb p p refl) ∙ ap (option_map (with_element i v)) (there arrays p live))

pub array_at-with_value_other : (arrays : List Block) (p i v q : ℕ) → q ≢ p → array_at (with_value arrays p i v) q ≡ array_at arrays q
array_at-with_value_other arrays p i v q other =
    array_at-with_value arrays p i v q
    ∙ ap (λ t. cond t (option_map (with_element i v) (array_at arrays p)) (array_at arrays q)) (ne_eqb q p other)

-- the array at each position stands where the words of those before it end, and only those arrays stand anywhere
array_from-position : (arrays : List Block) (first k : ℕ) → k < length arrays → array_from first arrays (first + used_by (take k arrays)) ≡ slice_get arrays k
array_from-position [] first k h = absurd (omega arith)
array_from-position (b ∷ rest) first zero h = array_from-first b rest first (first + 0) (omega arith)
array_from-position (b ∷ rest) first (suc k) h =
    let sums : first + (weight b + used_by (take k rest)) ≡ first + weight b + used_by (take k rest) = omega arith in
    array_from-later b rest first (first + (weight b + used_by (take k rest))) (λ e. absurd (omega arith))
    ∙ (ap (λ n. array_from (first + weight b) rest n) sums ∙ array_from-position rest (first + weight b) k (omega arith))

pub array_at-position : (arrays : List Block) (k : ℕ) → k < length arrays → array_at arrays (used_by (take k arrays)) ≡ slice_get arrays k
array_at-position arrays k h =
    ap (λ n. array_from 0 arrays n) (sym (zero_first (used_by (take k arrays)))) ∙ array_from-position arrays 0 k h

pub live_position : (arrays : List Block) (p : ℕ) → IsLive arrays p → (k : ℕ) × (k < length arrays) × (used_by (take k arrays) ≡ p)
live_position arrays p live =
    let s = stands arrays 0 p live in
    let n : length arrays ≡ length s.before + length (s.here ∷ s.after) = ap length s.is ∙ length-append s.before (s.here ∷ s.after) in
    let front : take (length s.before) arrays ≡ s.before = ap (λ l. take (length s.before) l) s.is ∙ take_at s.before (s.here ∷ s.after) (length s.before) refl in
    (length s.before, omega arith, ap used_by front ∙ omega (arith, s.place))

-- a region stays sound
pub IsSound-added : (n : ℕ) (arrays : List Block) (kind len : ℕ) → kind < 2 → used_by arrays + (len + 2) ≤ n → IsSound (record { size = n; arrays = arrays }) → IsSound (record { size = n; arrays = arrays ++ zeros kind len ∷ [] })
IsSound-added n arrays kind len low room h = record {
  within = omega (arith, used_by-added arrays (zeros kind len), length-replicate {A = ℕ} len 0);
  few = h.few;
  kinds = λ q. subst (λ o. kind_in o < 2) (sym (array_at-added arrays (zeros kind len) q)) (cond_both (eqb q (used_by arrays)) (Some (zeros kind len)) (array_at arrays q) (λ o. kind_in o < 2) (λ _. low) (λ _. h.kinds q));
}

kind_in-with_element : (i v : ℕ) (o : Option Block) → kind_in (option_map (with_element i v) o) ≡ kind_in o
kind_in-with_element i v None = refl
kind_in-with_element i v (Some b) = refl

pub IsSound-with_value : (n : ℕ) (arrays : List Block) (p i v : ℕ) → IsSound (record { size = n; arrays = arrays }) → IsSound (record { size = n; arrays = with_value arrays p i v })
IsSound-with_value n arrays p i v h = record {
  within = omega (arith, used_by-with_value arrays p i v, h.within);
  few = h.few;
  kinds = λ q. subst (λ o. kind_in o < 2) (sym (array_at-with_value arrays p i v q)) (cond_both (eqb q p) (option_map (with_element i v) (array_at arrays p)) (array_at arrays q) (λ o. kind_in o < 2) (λ _. subst (λ k. k < 2) (sym (kind_in-with_element i v (array_at arrays p))) (h.kinds p)) (λ _. h.kinds q));
}

pub IsSound-take : (n : ℕ) (arrays : List Block) (k : ℕ) → IsSound (record { size = n; arrays = arrays }) → IsSound (record { size = n; arrays = take k arrays })
IsSound-take n arrays k h = record {
  within = omega (arith, used_by-take k arrays, h.within);
  few = h.few;
  kinds = λ q. subst (λ o. kind_in o < 2) (sym (array_at-take arrays k q)) (cond_both (ltb q (used_by (take k arrays))) (array_at arrays q) None (λ o. kind_in o < 2) (λ _. h.kinds q) (λ _. omega arith));
}

-- a place fits a word
pub live_fits : (c : Contents) (p : ℕ) → IsSound c → IsLive c.arrays p → p < 2 ^ 32
live_fits c p h live = omega (arith, live_within c.arrays p live, h.within, h.few)

-- which marks there are
pub IsMark-all : (arrays : List Block) → IsMark arrays (used_by arrays)
IsMark-all arrays = (length arrays, ap used_by (take_all (length arrays) arrays (omega arith)))

pub IsMark-none : (arrays : List Block) → IsMark arrays 0
IsMark-none arrays = (0, refl)

pub IsMark-added : (arrays : List Block) (b : Block) (m : ℕ) → IsMark arrays m → IsMark (arrays ++ b ∷ []) m
IsMark-added arrays b m (k, e) = elim (cases_lt (length arrays) k) [
  | inl past ↦
      (length arrays, ap used_by (take_at arrays (b ∷ []) (length arrays) refl) ∙ (ap used_by (sym (take_all k arrays (omega arith))) ∙ e))
  | inr within ↦ (k, ap used_by (take-append-le k arrays (b ∷ []) within) ∙ e)
]

used_by-take-with_value_from : (k : ℕ) (arrays : List Block) (first p i v : ℕ) → used_by (take k (with_value_from first arrays p i v)) ≡ used_by (take k arrays)
used_by-take-with_value_from zero arrays first p i v = refl
used_by-take-with_value_from (suc k) [] first p i v = refl
used_by-take-with_value_from (suc k) (b ∷ rest) first p i v = elim (cases_eq p first) [
  | inl same ↦
      ap (λ l. used_by (take (suc k) l)) (with_value_from-first b rest first p i v same)
      ∙ ap (λ w. w + used_by (take k rest)) (weight-with_element i v b)
  | inr other ↦
      ap (λ l. used_by (take (suc k) l)) (with_value_from-later b rest first p i v other)
      ∙ ap (λ n. weight b + n) (used_by-take-with_value_from k rest (first + weight b) p i v)
]

pub IsMark-with_value : (arrays : List Block) (p i v m : ℕ) → IsMark arrays m → IsMark (with_value arrays p i v) m
IsMark-with_value arrays p i v m (k, e) = (k, used_by-take-with_value_from k arrays 0 p i v ∙ e)

pub IsMark-take : (arrays : List Block) (k m : ℕ) → m ≤ used_by (take k arrays) → IsMark arrays m → IsMark (take k arrays) m
IsMark-take arrays k m low (j, e) = elim (cases_lt k j) [
  | inl past ↦
      let less = used_by-take k (take j arrays) in
      let same : used_by (take k (take j arrays)) ≡ used_by (take k arrays) = ap used_by (take-take k j arrays (omega arith)) in
      (k, ap used_by (take-take k k arrays (omega arith)) ∙ omega (arith, less, same, e, low))
  | inr within ↦ (j, ap used_by (take-take j k arrays within) ∙ e)
]

-- two first parts of the arrays that use the same words are the same
pub same_take : (arrays : List Block) (j k : ℕ) → used_by (take j arrays) ≡ used_by (take k arrays) → take j arrays ≡ take k arrays
same_take arrays zero zero e = refl
same_take [] zero (suc k) e = refl
same_take [] (suc j) zero e = refl
same_take [] (suc j) (suc k) e = refl
same_take (b ∷ rest) zero (suc k) e = absurd (omega arith)
same_take (b ∷ rest) (suc j) zero e = absurd (omega arith)
same_take (b ∷ rest) (suc j) (suc k) e = ap (λ l. b ∷ l) (same_take rest j k (omega arith))
