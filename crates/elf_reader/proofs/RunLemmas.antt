-- Ranges that rise, merged into the maximal runs of their words.
use Rattle.std.proofs.Common.{◌≡◌, ℕ, zero, suc, ◌+◌, ◌-◌, ◌*◌, ◌/◌, ◌%◌, ◌<◌, ◌≤◌, Bool, true, false, ◌&&◌, ◌||◌, nat_lt, nat_le, max, cond, filter, IsPermutation, List, [], ◌∷◌, ◌++◌, length, get_or, drop, refl, sym, ap, ◌∙◌, append_assoc, subst, inl, inr, arith, add-one}
use Rattle.std.specs.List.{list_any, All}
use Rattle.std.specs.List.Sorted.{IsNonDecreasingBy}
use Rattle.std.proofs.lemmas.Bool.{cases_Bool, leb-true, leb-false, le-leb, lt-leb, cond-true, cond-false, ltb-true, ltb-false}
use Rattle.std.proofs.lemmas.Bool.Decides.{nat_tests}
use Rattle.std.proofs.lemmas.List.{at_drop_more, at_drop_all, get_or_default}
use Rattle.std.proofs.lemmas.List.Elements.{All-filter, filter_passes}
use Rattle.std.proofs.lemmas.List.Sorted.{All-permutation, list_any-IsPermutation}
use Rattle.std.proofs.lemmas.List.Folds.{list_any_at}
use Rattle.elf_definition.specs.declared.range.Range.{Range}
use Rattle.elf_definition.specs.Area.{range_end, has_address}
use Rattle.elf_definition.specs.Fault.{IsRunsOf}

-- two ranges as one
abbrev pub join : Range → Range → Range
join a b = record { first = a.first; words = (max (range_end a) (range_end b) - a.first) / 4 }

-- the runs of a range and those that begin after it
abbrev pub merge_from : Range → List Range → List Range
merge_from run [] = run ∷ []
merge_from run (r ∷ rest) = cond (nat_le r.first (range_end run)) (merge_from (join run r) rest) (run ∷ merge_from r rest)

-- what the merged ranges need
pub record Ready (run : Range) (rest : List Range) : Type 0 where
  pub after : (k : ℕ) (d : Range) → k < length rest → run.first ≤ (get_or rest k d).first
  pub rise : IsNonDecreasingBy (λ (r : Range). r.first) rest
  pub some : 1 ≤ run.words
  pub filled : All (λ (r : Range). 1 ≤ r.words) rest
  pub even : run.first % 4 ≡ 0
  pub aligned : All (λ (r : Range). r.first % 4 ≡ 0) rest

ready_next : (run r : Range) (rest : List Range) → Ready run (r ∷ rest) → Ready r rest
ready_next run r rest ready = record {
  after = λ k d within. ready.rise 0 (suc k) d (omega arith) (omega (arith, within));
  rise = λ i j d le within. ready.rise (suc i) (suc j) d (omega (arith, le)) (omega (arith, within));
  some = ready.filled 0 r (omega arith);
  filled = λ k d within. ready.filled (suc k) d (omega (arith, within));
  even = ready.aligned 0 r (omega arith);
  aligned = λ k d within. ready.aligned (suc k) d (omega (arith, within));
}

join_some : (f w g v : ℕ) → 1 ≤ w → 1 ≤ (max (f + 4 * w) (g + 4 * v) - f) / 4
join_some f w g v some = omega (arith, some)

join_end : (f w g v : ℕ) → f ≤ g → f % 4 ≡ 0 → g % 4 ≡ 0
    → f + 4 * ((max (f + 4 * w) (g + 4 * v) - f) / 4) ≡ max (f + 4 * w) (g + 4 * v)
join_end f w g v le even even' = omega (arith, le, even, even')

join_has : (f e g e' at : ℕ) → f ≤ g → g ≤ e
    → (nat_le f at && nat_lt at (max e e')) ≡ ((nat_le f at && nat_lt at e) || (nat_le g at && nat_lt at e'))
join_has f e g e' at le begins = grind (arith, nat_tests)

ready_join : (run r : Range) (rest : List Range) → Ready run (r ∷ rest) → Ready (join run r) rest
ready_join run r rest ready = record {
  after = λ k d within. ready.after (suc k) d (omega (arith, within));
  rise = λ i j d le within. ready.rise (suc i) (suc j) d (omega (arith, le)) (omega (arith, within));
  some = join_some run.first run.words r.first r.words ready.some;
  filled = λ k d within. ready.filled (suc k) d (omega (arith, within));
  even = ready.even;
  aligned = λ k d within. ready.aligned (suc k) d (omega (arith, within));
}

join_address : (run r : Range) (rest : List Range) (at : ℕ) → Ready run (r ∷ rest) → r.first ≤ range_end run
    → has_address at (join run r) ≡ (has_address at run || has_address at r)
join_address run r rest at ready begins =
    let after = ready.after 0 r (omega arith) in
    let ends = join_end run.first run.words r.first r.words after ready.even (ready.aligned 0 r (omega arith)) in
    ap (λ e. nat_le run.first at && nat_lt at e) ends
    ∙ join_has run.first (range_end run) r.first (range_end r) at after begins

-- what merging gives
record Merged (run : Range) (rest out : List Range) : Type 0 where
  head : (d : Range) → (get_or out 0 d).first ≡ run.first
  filled : All (λ (r : Range). 1 ≤ r.words) out
  aligned : All (λ (r : Range). r.first % 4 ≡ 0) out
  apart : (k : ℕ) (d : Range) → suc k < length out → range_end (get_or out k d) < (get_or out (suc k) d).first
  same : (at : ℕ) → (has_address at run || list_any (has_address at) rest) ≡ list_any (has_address at) out

or_group : (a b c : Bool) → (a || (b || c)) ≡ ((a || b) || c)
or_group true b c = refl
or_group false b c = refl

merge_facts : (run : Range) (rest : List Range) → Ready run rest → Merged run rest (merge_from run rest)
merge_facts run [] ready = record {
  head = λ d. refl;
  filled = only_filled run ready.some;
  aligned = only_aligned run ready.even;
  apart = λ k d within. absurd (omega (arith, within));
  same = λ at. refl;
}
  where
    only_filled : (run : Range) → 1 ≤ run.words → All (λ (r : Range). 1 ≤ r.words) (run ∷ [])
    only_filled run h zero d within = h
    only_filled run h (suc k) d within = absurd (omega (arith, within))

    only_aligned : (run : Range) → run.first % 4 ≡ 0 → All (λ (r : Range). r.first % 4 ≡ 0) (run ∷ [])
    only_aligned run h zero d within = h
    only_aligned run h (suc k) d within = absurd (omega (arith, within))
merge_facts run (r ∷ rest) ready =
    elim (cases_Bool (nat_le r.first (range_end run))) [
      | inl begins ↦ rw begins (joins run r rest ready (leb-true _ _ begins) (merge_facts (join run r) rest (ready_join run r rest ready)))
      | inr gap ↦ rw gap (parts run r rest ready (leb-false _ _ gap) (merge_facts r rest (ready_next run r rest ready)))
    ]
  where
    joins : (run r : Range) (rest : List Range) → Ready run (r ∷ rest) → r.first ≤ range_end run
        → Merged (join run r) rest (merge_from (join run r) rest) → Merged run (r ∷ rest) (merge_from (join run r) rest)
    joins run r rest ready begins m = record {
      head = m.head;
      filled = m.filled;
      aligned = m.aligned;
      apart = m.apart;
      same = λ at.
          or_group (has_address at run) (has_address at r) (list_any (has_address at) rest)
          ∙ ap (λ b. b || list_any (has_address at) rest) (sym (join_address run r rest at ready begins))
          ∙ m.same at;
    }

    filled_more : (run : Range) (out : List Range) → 1 ≤ run.words → All (λ (r : Range). 1 ≤ r.words) out → All (λ (r : Range). 1 ≤ r.words) (run ∷ out)
    filled_more run out h hs zero d within = h
    filled_more run out h hs (suc k) d within = hs k d (omega (arith, within))

    aligned_more : (run : Range) (out : List Range) → run.first % 4 ≡ 0 → All (λ (r : Range). r.first % 4 ≡ 0) out → All (λ (r : Range). r.first % 4 ≡ 0) (run ∷ out)
    aligned_more run out h hs zero d within = h
    aligned_more run out h hs (suc k) d within = hs k d (omega (arith, within))

    apart_more : (run r : Range) (out : List Range) → range_end run < r.first → ((d : Range) → (get_or out 0 d).first ≡ r.first)
        → ((k : ℕ) (d : Range) → suc k < length out → range_end (get_or out k d) < (get_or out (suc k) d).first)
        → (k : ℕ) (d : Range) → suc k < length (run ∷ out) → range_end (get_or (run ∷ out) k d) < (get_or (run ∷ out) (suc k) d).first
    apart_more run r out gap head hs zero d within = omega (arith, gap, head d)
    apart_more run r out gap head hs (suc k) d within = hs k d (omega (arith, within))

    parts : (run r : Range) (rest : List Range) → Ready run (r ∷ rest) → range_end run < r.first
        → Merged r rest (merge_from r rest) → Merged run (r ∷ rest) (run ∷ merge_from r rest)
    parts run r rest ready gap m = record {
      head = λ d. refl;
      filled = filled_more run (merge_from r rest) ready.some m.filled;
      aligned = aligned_more run (merge_from r rest) ready.even m.aligned;
      apart = apart_more run r (merge_from r rest) gap m.head m.apart;
      same = λ at. ap (λ b. has_address at run || b) (m.same at);
    }

-- the merged ranges are the maximal runs
merge_runs : (run : Range) (rest out : List Range) → Ready run rest → out ≡ merge_from run rest
    → IsRunsOf (λ at. list_any (has_address at) (run ∷ rest)) out
merge_runs run rest out ready is_out =
    let m = merge_facts run rest ready in
    let P : List Range → Type 0 = λ xs. IsRunsOf (λ at. list_any (has_address at) (run ∷ rest)) xs in
    subst P (sym is_out) (record {
      filled = m.filled;
      aligned = m.aligned;
      apart = λ k d within. rw (add-one k) (m.apart k d (omega (arith, within)));
      same = m.same;
    })

-- one step of the loop, where the next range joins, and where there is a gap
pub merge_joined : (out all ranges : List Range) (run now : Range) (i : ℕ) (d : Range) (first last : ℕ) → i < length ranges
    → out ++ merge_from run (drop i ranges) ≡ all
    → first ≡ (get_or ranges i d).first → last ≡ range_end run → first ≤ last
    → now ≡ join run (get_or ranges i d)
    → out ++ merge_from now (drop (i + 1) ranges) ≡ all
merge_joined out all ranges run now i d first last within before is_first is_last begins is_now =
    let r = get_or ranges i d in
    let rest = drop (i + 1) ranges in
    let joins : nat_le r.first (range_end run) ≡ true = le-leb _ _ (omega (arith, is_first, is_last, begins)) in
    ap (λ x. out ++ merge_from x rest) is_now
    ∙ sym (ap (λ xs. out ++ xs) (at_drop_more (merge_from run) ranges i d within ∙ cond-true (nat_le r.first (range_end run)) (merge_from (join run r) rest) (run ∷ merge_from r rest) joins))
    ∙ before

pub merge_parted : (out pushed all ranges : List Range) (run now : Range) (i : ℕ) (d : Range) (first last : ℕ) → i < length ranges
    → out ++ merge_from run (drop i ranges) ≡ all
    → first ≡ (get_or ranges i d).first → last ≡ range_end run → last < first
    → now ≡ get_or ranges i d → pushed ≡ out ++ run ∷ []
    → pushed ++ merge_from now (drop (i + 1) ranges) ≡ all
merge_parted out pushed all ranges run now i d first last within before is_first is_last gap is_now is_pushed =
    let r = get_or ranges i d in
    let rest = drop (i + 1) ranges in
    let parts : nat_le r.first (range_end run) ≡ false = lt-leb _ _ (omega (arith, is_first, is_last, gap)) in
    ap (λ xs. xs ++ merge_from now rest) is_pushed
    ∙ append_assoc out (run ∷ []) (merge_from now rest)
    ∙ ap (λ x. out ++ (run ∷ merge_from x rest)) is_now
    ∙ sym (ap (λ xs. out ++ xs) (at_drop_more (merge_from run) ranges i d within ∙ cond-false (nat_le r.first (range_end run)) (merge_from (join run r) rest) (run ∷ merge_from r rest) parts))
    ∙ before

-- a joined range ends no later than the two
join_low : (run r : Range) (limit : ℕ) → range_end run ≤ limit → range_end r ≤ limit → run.first ≤ r.first → range_end (join run r) ≤ limit
join_low run r limit a b le = low run.first run.words r.first r.words limit a b le
  where
    low : (f w g v limit : ℕ) → f + 4 * w ≤ limit → g + 4 * v ≤ limit → f ≤ g → f + 4 * ((max (f + 4 * w) (g + 4 * v) - f) / 4) ≤ limit
    low f w g v limit a b le = omega (arith, a, b, le)

-- of ranges that rise, an earlier one begins no later
pub first_before : (ranges : List Range) (i k : ℕ) (c d : Range) → IsNonDecreasingBy (λ (r : Range). r.first) ranges → i ≤ k → k < length ranges
    → (get_or ranges i c).first ≤ (get_or ranges k d).first
first_before ranges i k c d rise le within =
    let same = ap (λ (r : Range). r.first) (get_or_default ranges i c d (omega (arith, within))) in
    let before = rise i k d le within in
    omega (arith, same, before)

pub joined_low : (now run r : Range) (limit : ℕ) → now ≡ join run r → range_end run ≤ limit → range_end r ≤ limit → run.first ≤ r.first
    → range_end now ≤ limit
joined_low now run r limit is_now a b le =
    let P : Range → Type 0 = λ x. range_end x ≤ limit in subst P (sym is_now) (join_low run r limit a b le)

pub same_low : (now r : Range) (limit : ℕ) → now ≡ r → range_end r ≤ limit → range_end now ≤ limit
same_low now r limit is_now a = let P : Range → Type 0 = λ x. range_end x ≤ limit in subst P (sym is_now) a

or_absorb : (a b : Bool) → (a ≡ true → b ≡ true) → (a || b) ≡ b
or_absorb true b h = sym (h refl)
or_absorb false b h = refl

-- the end of the loop
pub merge_done : (out pushed ranges : List Range) (run : Range) (i : ℕ) (d : Range) → 0 < length ranges
    → IsNonDecreasingBy (λ (r : Range). r.first) ranges
    → All (λ (r : Range). 1 ≤ r.words) ranges
    → All (λ (r : Range). r.first % 4 ≡ 0) ranges
    → length ranges ≤ i → out ++ merge_from run (drop i ranges) ≡ merge_from (get_or ranges 0 d) ranges
    → pushed ≡ out ++ run ∷ []
    → IsRunsOf (λ at. list_any (has_address at) ranges) pushed
merge_done out pushed ranges run i d some rise filled aligned past before is_pushed =
    let all = is_pushed ∙ sym (ap (λ xs. out ++ xs) (at_drop_all (merge_from run) ranges i past)) ∙ before in
    let first = get_or ranges 0 d in
    let ready : Ready first ranges = record {
      after = λ k e within. first_before ranges 0 k d e rise (omega arith) within;
      rise = rise;
      some = filled 0 d some;
      filled = filled;
      even = aligned 0 d some;
      aligned = aligned;
    } in
    let twice = merge_runs first ranges pushed ready all in
    record {
      filled = twice.filled;
      aligned = twice.aligned;
      apart = twice.apart;
      same = λ at.
          sym (or_absorb (has_address at first) (list_any (has_address at) ranges) (λ e. list_any_at (has_address at) ranges 0 d some e))
          ∙ twice.same at;
    }

-- no range at all
pub no_runs : (ranges out : List Range) → length ranges ≡ 0 → out ≡ [] → IsRunsOf (λ at. list_any (has_address at) ranges) out
no_runs [] out none is_out =
    let P : List Range → Type 0 = λ xs. IsRunsOf (λ at. false) xs in
    subst P (sym is_out) (record {
      filled = λ k d within. absurd (omega (arith, within));
      aligned = λ k d within. absurd (omega (arith, within));
      apart = λ k d within. absurd (omega (arith, within));
      same = λ at. refl;
    })
no_runs (r ∷ rest) out none is_out = absurd (omega (arith, none))

-- what holds of the ranges holds of those that were kept and sorted
pub kept_all : (P : Range → Type 0) (ranges kept sorted given : List Range) → kept ≡ filter (λ (r : Range). nat_lt 0 r.words) ranges
    → IsPermutation kept sorted → given ≡ sorted → All P ranges → All P given
kept_all P ranges kept sorted given is_kept moved is_given holds =
    let Q : List Range → Type 0 = λ xs. All P xs in
    subst Q (sym is_given) (All-permutation P kept sorted moved (subst Q (sym is_kept) (All-filter (λ (r : Range). nat_lt 0 r.words) P ranges holds)))

pub kept_filled : (ranges kept sorted given : List Range) → kept ≡ filter (λ (r : Range). nat_lt 0 r.words) ranges
    → IsPermutation kept sorted → given ≡ sorted → All (λ (r : Range). 1 ≤ r.words) given
kept_filled ranges kept sorted given is_kept moved is_given =
    let P : Range → Type 0 = λ r. nat_lt 0 r.words ≡ true in
    let Q : List Range → Type 0 = λ xs. All P xs in
    let passes = subst Q (sym is_given) (All-permutation P kept sorted moved (subst Q (sym is_kept) (filter_passes (λ (r : Range). nat_lt 0 r.words) ranges))) in
    λ k d within. ltb-true _ _ (passes k d within)

-- ranges without words hold no address
filled_same : (at : ℕ) (ranges : List Range) → list_any (has_address at) (filter (λ (r : Range). nat_lt 0 r.words) ranges) ≡ list_any (has_address at) ranges
filled_same at [] = refl
filled_same at (r ∷ rest) =
    elim (cases_Bool (nat_lt 0 r.words)) [
      | inl some ↦ rw some (ap (λ b. has_address at r || b) (filled_same at rest))
      | inr none ↦ rw none (filled_same at rest ∙ ap (λ b. b || list_any (has_address at) rest) (sym (empty r.first r.words at (ltb-false _ _ none))))
    ]
  where
    empty : (f w at : ℕ) → w ≤ 0 → (nat_le f at && nat_lt at (f + 4 * w)) ≡ false
    empty f w at le = grind (arith, nat_tests)

kept_same : (ranges kept sorted given : List Range) → kept ≡ filter (λ (r : Range). nat_lt 0 r.words) ranges
    → IsPermutation kept sorted → given ≡ sorted → (at : ℕ) → list_any (has_address at) ranges ≡ list_any (has_address at) given
kept_same ranges kept sorted given is_kept moved is_given at =
    sym (filled_same at ranges)
    ∙ sym (ap (list_any (has_address at)) is_kept)
    ∙ list_any-IsPermutation (has_address at) kept sorted moved
    ∙ sym (ap (list_any (has_address at)) is_given)

-- the runs of those kept are the runs of all
pub kept_runs : (ranges kept sorted given out : List Range) → kept ≡ filter (λ (r : Range). nat_lt 0 r.words) ranges
    → IsPermutation kept sorted → given ≡ sorted
    → IsRunsOf (λ at. list_any (has_address at) given) out → IsRunsOf (λ at. list_any (has_address at) ranges) out
kept_runs ranges kept sorted given out is_kept moved is_given runs = record {
  filled = runs.filled;
  aligned = runs.aligned;
  apart = runs.apart;
  same = λ at. kept_same ranges kept sorted given is_kept moved is_given at ∙ runs.same at;
}
