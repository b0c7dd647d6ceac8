-- The lowest page that holds code and writable data.
use Rattle.std.proofs.Common.{◌≡◌, ℕ, zero, suc, ◌+◌, ◌*◌, ◌/◌, ◌<◌, ◌≤◌, Bool, true, false, ◌&&◌, ◌||◌, nat_le, List, [], ◌∷◌, map, filter, Option, Some, None, IfSome, refl, sym, ap, ◌∙◌, subst, inl, inr, arith}
use Rattle.std.specs.List.{list_any, All}
use Rattle.std.proofs.lemmas.Bool.{cases_Bool, cases_lt}
use Rattle.std.proofs.lemmas.Bool.Decides.{nat_tests}
use Rattle.std.proofs.lemmas.List.Elements.{All-filter}
use Rattle.elf_definition.specs.declared.range.Range.{Range}
use Rattle.elf_definition.specs.declared.segment.Segment.{Segment}
use Rattle.elf_reader.specs.declared.span.Span.{Span}
use Rattle.elf_definition.specs.Area.{range_is_on_page, data_is_on_page, is_shared_page}
use Rattle.elf_definition.specs.Check.{least_below, meet}
use Rattle.elf_definition.specs.Segments.{is_writable, segment_end}
use Rattle.elf_reader.specs.Spans.{are_within, AreFilled, IsLeastFrom, page_span}

-- the pages of segments with bytes in memory
map_filled : (ss : List Segment) → All (λ (s : Segment). 1 ≤ s.memsz) ss → AreFilled (map page_span ss)
map_filled [] live k d within = absurd (omega (arith, within))
map_filled (s ∷ rest) live zero d within = some s.vaddr s.memsz (live 0 s (omega arith))
  where
    some : (v m : ℕ) → 1 ≤ m → v / 4096 < (v + m + 4095) / 4096
    some v m h = omega (arith, h)
map_filled (s ∷ rest) live (suc k) d within =
    map_filled rest (λ j e inside. live (suc j) e (omega (arith, inside))) k d (omega (arith, within))

pub pages_filled : (segments : List Segment) (spans reaches given : List Span) → All (λ (s : Segment). 1 ≤ s.memsz) segments
    → spans ≡ map page_span (filter is_writable segments) → (AreFilled spans → AreFilled reaches) → given ≡ reaches → AreFilled given
pages_filled segments spans reaches given live is_spans keeps is_given =
    let P : List Span → Type 0 = λ xs. AreFilled xs in
    subst P (sym is_given) (keeps (subst P (sym is_spans) (map_filled (filter is_writable segments) (All-filter is_writable (λ (s : Segment). 1 ≤ s.memsz) segments live))))

-- they tell whether a page holds a byte of a writable segment
pages_same : (page : ℕ) (segments : List Segment) → All (λ (s : Segment). 1 ≤ s.memsz) segments
    → are_within page (page + 1) (map page_span (filter is_writable segments)) ≡ list_any (data_is_on_page page) segments
pages_same page [] live = refl
pages_same page (s ∷ rest) live =
    let more = pages_same page rest (λ j e inside. live (suc j) e (omega (arith, inside))) in
    elim (cases_Bool (is_writable s)) [
      | inl may ↦ rw may (ap (λ b. (nat_le (s.vaddr / 4096) page && nat_le (page + 1) ((segment_end s + 4095) / 4096)) || b) more
          ∙ ap (λ b. b || list_any (data_is_on_page page) rest) (held s.vaddr s.memsz page (live 0 s (omega arith))))
      | inr fixed ↦ rw fixed more
    ]
  where
    held : (v m page : ℕ) → 1 ≤ m
        → (nat_le (v / 4096) page && nat_le (page + 1) ((v + m + 4095) / 4096)) ≡ meet v (v + m) (4096 * page) (4096 * page + 4096)
    held v m page some = grind (arith, nat_tests)

-- nothing below the limit passes
least_none : (test : ℕ → Bool) (limit : ℕ) → ((m : ℕ) → m < limit → test m ≡ false) → least_below test limit ≡ None
unfolding least_below
least_none test zero never = refl
least_none test (suc n) never =
    let here = never n (omega arith) in
    rw (least_none test n (λ m below. never m (omega (arith, below))), here) refl

-- the least that passes
least_found : (test : ℕ → Bool) (n limit : ℕ) → n < limit → test n ≡ true → ((m : ℕ) → m < n → test m ≡ false)
    → least_below test limit ≡ Some n
unfolding least_below
least_found test n zero lt passes before = absurd (omega (arith, lt))
least_found test n (suc limit) lt passes before =
    elim (cases_lt n limit) [
      | inl below ↦ rw (least_found test n limit below passes before) refl
      | inr from ↦
          let same : limit ≡ n = omega (arith, lt, from) in
          rw (same, least_none test n before, passes) refl
    ]

from_least : (found test : ℕ → Bool) (limit : ℕ) (o : Option ℕ) → ((n : ℕ) → found n ≡ test n) → IsLeastFrom 0 found o → IfSome o (λ i. i < limit)
    → o ≡ least_below test limit
from_least found test limit None same least bound = sym (least_none test limit (λ m below. sym (same m) ∙ least m (omega arith)))
from_least found test limit (Some n) same least bound =
    sym (least_found test n limit bound (sym (same n) ∙ least.1) (λ m below. sym (same m) ∙ least.2 m (omega arith) below))

shared_same : (ranges : List Range) (segments : List Segment) (spans reaches given : List Span) → All (λ (s : Segment). 1 ≤ s.memsz) segments
    → spans ≡ map page_span (filter is_writable segments)
    → ((first behind : ℕ) → first < behind → are_within first behind reaches ≡ are_within first behind spans)
    → given ≡ reaches → (page : ℕ)
    → (list_any (range_is_on_page page) ranges && are_within page (page + 1) given) ≡ is_shared_page ranges segments page
unfolding is_shared_page
shared_same ranges segments spans reaches given live is_spans same is_given page =
    ap (λ b. list_any (range_is_on_page page) ranges && b)
    (ap (are_within page (page + 1)) is_given
    ∙ same page (page + 1) (omega arith)
    ∙ ap (are_within page (page + 1)) is_spans
    ∙ pages_same page segments live)

pub shared_least : (ranges : List Range) (segments : List Segment) (spans reaches given : List Span) (o : Option ℕ) (limit : ℕ)
    → All (λ (s : Segment). 1 ≤ s.memsz) segments
    → spans ≡ map page_span (filter is_writable segments)
    → ((first behind : ℕ) → first < behind → are_within first behind reaches ≡ are_within first behind spans)
    → given ≡ reaches
    → IsLeastFrom 0 (λ page. list_any (range_is_on_page page) ranges && are_within page (page + 1) given) o
    → IfSome o (λ i. i < limit)
    → o ≡ least_below (is_shared_page ranges segments) limit
shared_least ranges segments spans reaches given o limit live is_spans same is_given least bound =
    from_least _ (is_shared_page ranges segments) limit o (shared_same ranges segments spans reaches given live is_spans same is_given) least bound
