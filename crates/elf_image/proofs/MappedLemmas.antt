-- Where no page is for two things, the pages that are mapped are those that can be read, each counted once.
use Rattle.std.proofs.Common.{◌≡◌, ℕ, zero, suc, ◌+◌, ◌-◌, ◌<◌, ◌≤◌, Bool, true, false, ◌&&◌, ◌||◌, ◌==◌, nat_lt, nat_le, cond, min, List, Option, Some, None, option_map, refl, sym, ◌∙◌, inl, inr, arith, ◌/◌}
use Rattle.std.proofs.lemmas.Bool.{cases_Bool, cases_lt, or_parts}
use Rattle.std.proofs.lemmas.Bool.Decides.{nat_tests}
use Rattle.elf_definition.specs.declared.segment.Segment.{Segment}
use Rattle.elf_definition.specs.Check.{least_below}
use Rattle.elf_definition.specs.declared.image_fault.ImageFault.{ImageFault}
use Rattle.mips_definition.specs.State.{argument_page}
use Rattle.elf_definition.specs.Pages.{pages_below, count_below, heap_page, is_segment_page, is_heap_page, is_stack_page, is_readable_page, is_shared, mapped_pages}
use Rattle.elf_definition.specs.ImageFault.{layout_fault}
use Rattle.elf_image.proofs.TableLemmas.{least_all}
use Rattle.elf_image.proofs.MarkLemmas.{count_same_tests}

one_more : (f g : Bool) → (f && g) ≡ false → ◌≡◌ {A = ℕ} (cond (f || g) 1 0) (cond f 1 0 + cond g 1 0)
one_more true true both = absurd (cc)
one_more true false both = refl
one_more false true both = refl
one_more false false both = refl

sums : (a b c d e f : ℕ) → a ≡ b + c → d ≡ e + f → a + d ≡ (b + e) + (c + f)
sums a b c d e f p q = omega (arith, p, q)

-- of two tests that no number passes both
count_or : (f g : ℕ → Bool) (n : ℕ) → ((p : ℕ) → p < n → (f p && g p) ≡ false) → count_below (λ p. f p || g p) n ≡ count_below f n + count_below g n
unfolding count_below
count_or f g zero apart = refl
count_or f g (suc n) apart =
    sums _ (count_below f n) (count_below g n) _ (cond (f n) 1 0) (cond (g n) 1 0) (count_or f g n (λ p lt. apart p (omega (arith, lt)))) (one_more (f n) (g n) (apart n (omega arith)))

-- the numbers of a stretch
count_span : (a b n : ℕ) → a ≤ b → count_below (λ p. nat_le a p && nat_lt p b) n ≡ min b n - a
unfolding count_below
count_span a b zero le = omega arith
count_span a b (suc n) le =
    let before = count_span a b n le in
    elim (cases_lt n a) [
      | inl lt ↦ let off : (nat_le a n && nat_lt n b) ≡ false = grind (arith, nat_tests) in rw off (omega (arith, before, lt, le))
      | inr ge ↦ elim (cases_lt n b) [
        | inl less ↦ let on : (nat_le a n && nat_lt n b) ≡ true = grind (arith, nat_tests) in rw on (omega (arith, before, ge, less))
        | inr more ↦ let off : (nat_le a n && nat_lt n b) ≡ false = grind (arith, nat_tests) in rw off (omega (arith, before, more, ge))
      ]
    ]

point : (a p : ℕ) → (p == a) ≡ (nat_le a p && nat_lt p (a + 1))
point a p =
    elim (cases_Bool (p == a)) [
      | inl on ↦ let inside : (nat_le a p && nat_lt p (a + 1)) ≡ true = grind (arith, nat_tests) in on ∙ sym inside
      | inr off ↦ let outside : (nat_le a p && nat_lt p (a + 1)) ≡ false = grind (arith, nat_tests) in off ∙ sym outside
    ]

count_point : (a n : ℕ) → a < n → count_below (λ p. p == a) n ≡ 1
count_point a n lt =
    let all = count_same_tests (λ p. p == a) (λ p. nat_le a p && nat_lt p (a + 1)) n (point a) in
    let span = count_span a (a + 1) n (omega arith) in
    omega (arith, all, span, lt)

abbrev clash : ℕ → ImageFault
clash page = record { kind = 6; number = page; word = 0 }

no_place : (o : Option ℕ) → option_map clash o ≡ None → o ≡ None
no_place None e = refl
no_place (Some x) e = absurd (cc)

none_shared : (segments : List Segment) (heap stack : ℕ) → layout_fault segments heap stack ≡ None → (p : ℕ) → p < pages_below → is_shared segments heap stack p ≡ false
none_shared segments heap stack none p lt =
    least_all (is_shared segments heap stack) pages_below (no_place (least_below (is_shared segments heap stack) pages_below) none) p lt

none_of : (s h k a : Bool) → (s && (h || k || a)) ≡ false → (h && (k || a)) ≡ false → (k && a) ≡ false
    → (((s || h || k) && a) ≡ false) × (((s || h) && k) ≡ false) × ((s && h) ≡ false)
none_of true h k a p q r =
    let first = or_parts (h || k) a p in
    let second = or_parts h k first.0 in
    (first.1, second.1, second.0)
none_of false true k a p q r =
    let first = or_parts k a q in
    (first.1, first.0, refl)
none_of false false k a p q r = (r, refl, refl)

parts : (segments : List Segment) (heap stack p : ℕ) → is_shared segments heap stack p ≡ false
    → (((is_segment_page segments p || is_heap_page segments heap p || is_stack_page stack p) && (p == argument_page / 4096)) ≡ false)
    × (((is_segment_page segments p || is_heap_page segments heap p) && is_stack_page stack p) ≡ false)
    × ((is_segment_page segments p && is_heap_page segments heap p) ≡ false)
unfolding is_shared
parts segments heap stack p off = go (is_segment_page segments p) (is_heap_page segments heap p) (is_stack_page stack p) (p == argument_page / 4096) off
  where
    go : (s h k a : Bool) → ((s && (h || k || a)) || (h && (k || a)) || (k && a)) ≡ false → (((s || h || k) && a) ≡ false) × (((s || h) && k) ≡ false) × ((s && h) ≡ false)
    go s h k a off =
        let first = or_parts ((s && (h || k || a)) || (h && (k || a))) (k && a) off in
        let second = or_parts (s && (h || k || a)) (h && (k || a)) first.0 in
        none_of s h k a second.0 second.1 first.1

heap_part : (s h k a : Bool) → ((s || h || k) && a) ≡ false → a ≡ true → h ≡ false
heap_part true h k true off on = absurd (cc)
heap_part false true k true off on = absurd (cc)
heap_part false false k true off on = refl
heap_part s h k false off on = absurd (cc)

heap_end : (first heap : ℕ) → (nat_le first 0x7ffff && nat_lt 0x7ffff (first + heap)) ≡ false → first ≤ 0x7F000 → first + heap ≤ 0x7ffff
heap_end first heap off low = grind (arith, nat_tests)

-- the heap ends before the argument page
pub heap_short : (segments : List Segment) (heap stack : ℕ) → heap_page segments ≤ 0x7F000 → layout_fault segments heap stack ≡ None → heap_page segments + heap ≤ 0x7ffff
heap_short segments heap stack low none =
    let apart = parts segments heap stack 0x7ffff (none_shared segments heap stack none 0x7ffff (omega arith)) in
    let free : (nat_le (heap_page segments) 0x7ffff && nat_lt 0x7ffff (heap_page segments + heap)) ≡ false =
    heap_part (is_segment_page segments 0x7ffff) (is_heap_page segments heap 0x7ffff) (is_stack_page stack 0x7ffff) (0x7ffff == argument_page / 4096) apart.0 refl in
    heap_end (heap_page segments) heap free low

-- the pages that are mapped are those that can be read
pub mapped_count : (segments : List Segment) (heap stack : ℕ) → heap_page segments ≤ 0x7F000 → stack ≤ 32768 → layout_fault segments heap stack ≡ None
    → mapped_pages segments heap stack ≡ count_below (is_readable_page segments heap stack) pages_below
unfolding mapped_pages is_readable_page
mapped_count segments heap stack low stack_fits none =
    let apart = λ (p : ℕ) (lt : p < pages_below). parts segments heap stack p (none_shared segments heap stack none p lt) in
    let first = heap_page segments in
    let short = heap_short segments heap stack low none in
    let all = count_or (λ p. is_segment_page segments p || is_heap_page segments heap p || is_stack_page stack p) (λ p. p == argument_page / 4096) pages_below (λ p lt. (apart p lt).0) in
    let more = count_or (λ p. is_segment_page segments p || is_heap_page segments heap p) (is_stack_page stack) pages_below (λ p lt. (apart p lt).1) in
    let last = count_or (is_segment_page segments) (is_heap_page segments heap) pages_below (λ p lt. (apart p lt).2) in
    let heaps : count_below (is_heap_page segments heap) pages_below ≡ heap = count_span first (first + heap) pages_below (omega arith) ∙ (let n : min (first + heap) pages_below - first ≡ heap = omega (arith, short) in n) in
    let stacks : count_below (is_stack_page stack) pages_below ≡ stack = count_span (0x7ffff - stack) 0x7ffff pages_below (omega arith) ∙ (let n : min 0x7ffff pages_below - (0x7ffff - stack) ≡ stack = omega (arith, stack_fits) in n) in
    let arguments : count_below (λ p. p == argument_page / 4096) pages_below ≡ 1 = count_point 0x7ffff pages_below (omega arith) in
    total (count_below (is_segment_page segments) pages_below) heap stack _ _ _ _ _ _ all more last heaps stacks arguments
  where
    total : (s heap stack c h k a m l : ℕ) → c ≡ m + a → m ≡ l + k → l ≡ s + h → h ≡ heap → k ≡ stack → a ≡ 1 → s + heap + stack + 1 ≡ c
    total s heap stack c h k a m l p q r x y z = omega (arith, p, q, r, x, y, z)
