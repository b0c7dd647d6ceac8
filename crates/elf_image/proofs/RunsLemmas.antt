-- An area has one list of maximal runs in rising order.
use Rattle.std.proofs.Common.{◌≡◌, ℕ, zero, suc, ◌+◌, ◌*◌, ◌<◌, ◌≤◌, Bool, true, false, ◌&&◌, nat_lt, nat_le, List, [], ◌∷◌, length, get_or, refl, sym, ◌∙◌, inl, inr, arith}
use Rattle.std.specs.List.{All, AllAdjacentBelow, list_any}
use Rattle.std.proofs.lemmas.Bool.{cases_lt, or_left}
use Rattle.std.proofs.lemmas.List.Folds.{list_any_at}
use Rattle.std.proofs.lemmas.Bool.Decides.{nat_tests}
use Rattle.elf_definition.specs.declared.range.Range.{Range}
use Rattle.elf_definition.specs.Area.{range_end, has_address}
use Rattle.elf_definition.specs.Fault.{IsRunsOf}

-- filled runs that begin at a place or behind it, and rise with a gap between each two
abbrev Above : ℕ → List Range → Type 0
Above b [] = Unit {0}
Above b (r ∷ rs) = (b ≤ r.first) × (1 ≤ r.words) × Above (r.first + 4 * r.words + 1) rs

above : (b : ℕ) (rs : List Range) → All (λ (r : Range). 1 ≤ r.words) rs → AllAdjacentBelow (λ r s. range_end r < s.first) rs (length rs)
    → ((d : Range) → 0 < length rs → b ≤ (get_or rs 0 d).first) → Above b rs
above b [] filled apart first = tt
above b (r ∷ rs) filled apart first = (
  first r (omega arith),
  filled 0 r (omega arith),
  above (r.first + 4 * r.words + 1) rs (λ k d lt. filled (suc k) d (omega (arith, lt))) (λ k d lt. let gap = apart (suc k) d (omega (arith, lt)) in let next : suc k + 1 ≡ suc (k + 1) = omega arith in let moved : range_end (get_or (r ∷ rs) (suc k) d) < (get_or (r ∷ rs) (suc (k + 1)) d).first = rw next at gap in moved)
      (λ d lt. let gap = apart 0 d (omega (arith, lt)) in omega (arith, gap)),
)

low : (f w at b : ℕ) → at < b → b ≤ f → (nat_le f at && nat_lt at (f + 4 * w)) ≡ false
low f w at b lt le = grind (arith, nat_tests)

high : (f w at : ℕ) → f + 4 * w ≤ at → (nat_le f at && nat_lt at (f + 4 * w)) ≡ false
high f w at le = grind (arith, nat_tests)

within : (f w at : ℕ) → f ≤ at → at < f + 4 * w → (nat_le f at && nat_lt at (f + 4 * w)) ≡ true
within f w at le lt = grind (arith, nat_tests)

none_below : (b at : ℕ) (rs : List Range) → Above b rs → at < b → list_any (has_address at) rs ≡ false
none_below b at [] up lt = refl
none_below b at (r ∷ rs) up lt =
    rw (low r.first r.words at b lt up.0) (none_below (r.first + 4 * r.words + 1) at rs up.2 (omega (arith, lt, up.0)))

-- the first run of one list begins no later than that of the other
first_le : (r s : Range) (xs ys : List Range) → Above r.first (r ∷ xs) → Above s.first (s ∷ ys)
    → list_any (has_address r.first) (r ∷ xs) ≡ list_any (has_address r.first) (s ∷ ys) → s.first ≤ r.first
first_le r s xs ys up up' same =
    elim (cases_lt r.first s.first) [
      | inr le ↦ le
      | inl lt ↦ absurd (
          let on : list_any (has_address r.first) (r ∷ xs) ≡ true = or_left (has_address r.first r) (list_any (has_address r.first) xs) (within r.first r.words r.first (omega arith) (omega (arith, up.1))) in
          let off = none_below s.first r.first (s ∷ ys) up' lt in
          cc)
    ]

-- and ends no earlier
end_le : (r s : Range) (xs ys : List Range) → Above r.first (r ∷ xs) → r.first ≡ s.first
    → list_any (has_address (r.first + 4 * r.words)) (r ∷ xs) ≡ list_any (has_address (r.first + 4 * r.words)) (s ∷ ys) → s.words ≤ r.words
end_le r s xs ys up begin same =
    elim (cases_lt r.words s.words) [
      | inr le ↦ le
      | inl lt ↦ absurd (
          let at = r.first + 4 * r.words in
          let on : list_any (has_address at) (s ∷ ys) ≡ true = or_left (has_address at s) (list_any (has_address at) ys) (within s.first s.words at (omega (arith, begin)) (omega (arith, begin, lt))) in
          let off : list_any (has_address at) (r ∷ xs) ≡ false = rw (high r.first r.words at (omega arith)) (none_below (at + 1) at xs up.2 (omega arith)) in
          cc)
    ]

same_range : (r s : Range) → r.first ≡ s.first → r.words ≡ s.words → r ≡ s
same_range r s p q = λ i. record { first = p i; words = q i }

lists_one : (r s : Range) (xs ys : List Range) → r ≡ s → xs ≡ ys → r ∷ xs ≡ s ∷ ys
lists_one r s xs ys p q = λ i. p i ∷ q i

-- the rest has the addresses behind the first run
rest : (at : ℕ) (r : Range) (xs : List Range) → r.first + 4 * r.words ≤ at → list_any (has_address at) (r ∷ xs) ≡ list_any (has_address at) xs
rest at r xs past = rw (high r.first r.words at past) refl

one : (b : ℕ) (xs ys : List Range) → Above b xs → Above b ys → ((at : ℕ) → list_any (has_address at) xs ≡ list_any (has_address at) ys) → xs ≡ ys
one b [] [] up up' same = refl
one b [] (s ∷ ys) up up' same =
    absurd (
    let on : list_any (has_address s.first) (s ∷ ys) ≡ true = or_left (has_address s.first s) (list_any (has_address s.first) ys) (within s.first s.words s.first (omega arith) (omega (arith, up'.1))) in
    let off : false ≡ list_any (has_address s.first) (s ∷ ys) = same s.first in
    cc)
one b (r ∷ xs) [] up up' same =
    absurd (
    let on : list_any (has_address r.first) (r ∷ xs) ≡ true = or_left (has_address r.first r) (list_any (has_address r.first) xs) (within r.first r.words r.first (omega arith) (omega (arith, up.1))) in
    let off : list_any (has_address r.first) (r ∷ xs) ≡ false = same r.first in
    cc)
one b (r ∷ xs) (s ∷ ys) up up' same =
    let here : Above r.first (r ∷ xs) = (omega arith, up.1, up.2) in
    let there : Above s.first (s ∷ ys) = (omega arith, up'.1, up'.2) in
    let le = first_le r s xs ys here there (same r.first) in
    let ge = first_le s r ys xs there here (sym (same s.first)) in
    let begin : r.first ≡ s.first = omega (arith, le, ge) in
    let few = end_le r s xs ys here begin (same (r.first + 4 * r.words)) in
    let many = end_le s r ys xs there (sym begin) (sym (same (s.first + 4 * s.words))) in
    let size : r.words ≡ s.words = omega (arith, few, many) in
    let behind : s.first + 4 * s.words + 1 ≡ r.first + 4 * r.words + 1 = omega (arith, begin, size) in
    let up'' : Above (r.first + 4 * r.words + 1) ys = rw behind at up'.2 in
    lists_one r s xs ys (same_range r s begin size)
    (one (r.first + 4 * r.words + 1) xs ys up.2 up'' (λ at.
    elim (cases_lt at (r.first + 4 * r.words + 1)) [
      | inl lt ↦ none_below (r.first + 4 * r.words + 1) at xs up.2 lt ∙ sym (none_below (r.first + 4 * r.words + 1) at ys up'' lt)
      | inr past ↦ sym (rest at r xs (omega (arith, past))) ∙ same at ∙ rest at s ys (omega (arith, past, begin, size))
    ]))

-- no run begins where another ends
ends_off : (b : ℕ) (rs : List Range) → Above b rs → (k : ℕ) (d : Range) → k < length rs
    → (b ≤ (get_or rs k d).first) × (list_any (has_address (range_end (get_or rs k d))) rs ≡ false)
ends_off b [] up k d within = absurd (omega (arith, within))
ends_off b (r ∷ rs) up zero d within =
    (up.0, rw (high r.first r.words (r.first + 4 * r.words) (omega arith)) (none_below (r.first + 4 * r.words + 1) (r.first + 4 * r.words) rs up.2 (omega arith)))
ends_off b (r ∷ rs) up (suc k) d within =
    let later = ends_off (r.first + 4 * r.words + 1) rs up.2 k d (omega (arith, within)) in
    (omega (arith, up.0, later.0), rest (range_end (get_or rs k d)) r rs (omega (arith, later.0)) ∙ later.1)

pub runs_end : (area : ℕ → Bool) (rs : List Range) → IsRunsOf area rs → (k : ℕ) (d : Range) → k < length rs → area (range_end (get_or rs k d)) ≡ false
runs_end area rs runs k d within =
    runs.same (range_end (get_or rs k d)) ∙ (ends_off 0 rs (above 0 rs runs.filled runs.apart (λ d lt. omega arith)) k d within).1

-- the addresses of a run are in the area
pub runs_within : (area : ℕ → Bool) (rs : List Range) → IsRunsOf area rs → (k at : ℕ) (d : Range) → k < length rs
    → (get_or rs k d).first ≤ at → at < range_end (get_or rs k d) → area at ≡ true
runs_within area rs runs k at d inside from below =
    runs.same at ∙ list_any_at (has_address at) rs k d inside (within (get_or rs k d).first (get_or rs k d).words at from below)

pub runs_one : (area : ℕ → Bool) (xs ys : List Range) → IsRunsOf area xs → IsRunsOf area ys → xs ≡ ys
runs_one area xs ys runs runs' =
    one 0 xs ys (above 0 xs runs.filled runs.apart (λ d lt. omega arith)) (above 0 ys runs'.filled runs'.apart (λ d lt. omega arith))
    (λ at. sym (runs.same at) ∙ runs'.same at)
