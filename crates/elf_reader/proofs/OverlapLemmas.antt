-- Live segments that share an address, told by counting.
use Rattle.std.proofs.Common.{◌≡◌, ℕ, ◌+◌, ◌<◌, ◌≤◌, Bool, true, false, cond, nat_lt, nat_le, List, [], ◌∷◌, length, map, filter, drop, get_or, None, count_by, refl, sym, ap, ◌∙◌, inl, inr, arith, IsPermutation, position, Some, option_map}
use Rattle.std.specs.Option.{option_or}
use Rattle.std.proofs.lemmas.Bool.Decides.{nat_tests}
use Rattle.std.proofs.lemmas.List.Sums.{sum_by-take-drop, sum_by-drop_more}
use Rattle.std.proofs.lemmas.List.{at_drop_more}
use Rattle.std.proofs.lemmas.List.Sorted.{sum_by-IsPermutation}
use Rattle.elf_definition.specs.declared.program_header.ProgramHeader.{ProgramHeader}
use Rattle.elf_definition.specs.Segments.{is_live, segment_end, overlap, overlap_from}
use Rattle.elf_reader.proofs.CountLemmas.{count_by-cons, one, nothing}
use Rattle.std.proofs.lemmas.Bool.{cases_Bool}

-- those that begin before e are those that meet and those that are over at v
count_split : {H : Type 0} (live meets : H → Bool) (first behind : H → ℕ) (e v : ℕ)
    → ((g : H) → live g ≡ false → meets g ≡ false)
    → ((g : H) → live g ≡ true → cond (nat_lt (first g) e) 1 0 ≡ cond (meets g) 1 0 + cond (nat_le (behind g) v) 1 0)
    → (hs : List H)
    → count_by (λ x. nat_lt x e) (map first (filter live hs))
    ≡ count_by meets hs + count_by (λ x. nat_le x v) (map behind (filter live hs))
count_split live meets first behind e v off on [] = refl
count_split live meets first behind e v off on (g ∷ hs) =
    let rest = count_split live meets first behind e v off on hs in
    let met = count_by-cons meets g hs in
    elim (cases_Bool (live g)) [
      | inl alive ↦ rw alive (omega (
        arith,
        rest,
        met,
        on g alive,
        count_by-cons (λ x. nat_lt x e) (first g) (map first (filter live hs)),
        count_by-cons (λ x. nat_le x v) (behind g) (map behind (filter live hs)),
      ))
      | inr over ↦ rw over (omega (arith, rest, met, nothing (meets g) (off g over)))
    ]

-- one that is live overlaps itself
overlap_self : (h : ProgramHeader) → is_live h ≡ true → overlap h h ≡ true
overlap_self h alive = grind (arith, nat_tests)

-- one that is not live overlaps nothing
pub not_live_first : (h g : ProgramHeader) → is_live h ≡ false → overlap h g ≡ false
not_live_first h g off = grind (arith, nat_tests)

not_live_second : (h g : ProgramHeader) → is_live g ≡ false → overlap h g ≡ false
not_live_second h g off = grind (arith, nat_tests)

live_splits : (h g : ProgramHeader) → is_live h ≡ true → is_live g ≡ true
    → cond (nat_lt g.segment.vaddr (segment_end h.segment)) 1 0 ≡ cond (overlap h g) 1 0 + cond (nat_le (segment_end g.segment) h.segment.vaddr) 1 0
live_splits h g alive on = grind (arith, nat_tests)

-- what the ends of the live segments tell of the later headers that one overlaps
overlap_counted : (hs : List ProgramHeader) (i : ℕ) (d : ProgramHeader) (firsts ends : List ℕ) → i < length hs
    → IsPermutation (map (λ (g : ProgramHeader). g.segment.vaddr) (filter is_live hs)) firsts
    → IsPermutation (map (λ (g : ProgramHeader). segment_end g.segment) (filter is_live hs)) ends
    → is_live (get_or hs i d) ≡ true
    → count_by (overlap (get_or hs i d)) (drop (i + 1) hs) + 1 + count_by (λ x. nat_le x (get_or hs i d).segment.vaddr) ends
    ≤ count_by (λ x. nat_lt x (segment_end (get_or hs i d).segment)) firsts
overlap_counted hs i d firsts ends within same_firsts same_ends alive =
    let h = get_or hs i d in
    let begun = sum_by-IsPermutation (λ x. cond (nat_lt x (segment_end h.segment)) 1 0) _ firsts same_firsts in
    let over = sum_by-IsPermutation (λ x. cond (nat_le x h.segment.vaddr) 1 0) _ ends same_ends in
    let split = count_split is_live (overlap h) (λ g. g.segment.vaddr) (λ g. segment_end g.segment) (segment_end h.segment) h.segment.vaddr (λ g off. not_live_second h g off) (λ g on. live_splits h g alive on) hs in
    let more = sum_by-drop_more (λ g. cond (overlap h g) 1 0) hs i d within in
    let parts = sum_by-take-drop (λ g. cond (overlap h g) 1 0) hs i in
    let own = one (overlap h h) (overlap_self h alive) in
    omega (arith, begun, over, split, more, parts, own)

-- the same of the slices that the code passes on
pub overlap_counted-at : (hs later : List ProgramHeader) (i : ℕ) (d : ProgramHeader) (firsts ends fs es : List ℕ) → i < length hs
    → later ≡ drop (i + 1) hs → fs ≡ firsts → es ≡ ends
    → IsPermutation (map (λ (g : ProgramHeader). g.segment.vaddr) (filter is_live hs)) firsts
    → IsPermutation (map (λ (g : ProgramHeader). segment_end g.segment) (filter is_live hs)) ends
    → is_live (get_or hs i d) ≡ true
    → count_by (overlap (get_or hs i d)) later + 1 + count_by (λ x. nat_le x (get_or hs i d).segment.vaddr) es
    ≤ count_by (λ x. nat_lt x (segment_end (get_or hs i d).segment)) fs
overlap_counted-at hs later i d firsts ends fs es within is_later is_firsts is_ends same_firsts same_ends alive =
    rw (is_later, is_firsts, is_ends) (overlap_counted hs i d firsts ends within same_firsts same_ends alive)

-- a step of the search for the first overlap
overlap_from-step : (hs : List ProgramHeader) (i : ℕ) (d : ProgramHeader) → i < length hs
    → overlap_from i (drop i hs)
    ≡ option_or
    (option_map (λ k. record { kind = 15; i = i; j = i + 1 + k }) (position (overlap (get_or hs i d)) (drop (i + 1) hs)))
    (overlap_from (i + 1) (drop (i + 1) hs))
unfolding overlap_from
overlap_from-step hs i d within = at_drop_more (overlap_from i) hs i d within

pub overlap_from-found : (hs later : List ProgramHeader) (i k : ℕ) (d : ProgramHeader) → i < length hs
    → later ≡ drop (i + 1) hs → Some k ≡ position (overlap (get_or hs i d)) later
    → overlap_from i (drop i hs) ≡ Some (record { kind = 15; i = i; j = i + 1 + k })
overlap_from-found hs later i k d within is_later found =
    overlap_from-step hs i d within
    ∙ ap (λ o. option_or (option_map (λ k. record { kind = 15; i = i; j = i + 1 + k }) o) (overlap_from (i + 1) (drop (i + 1) hs))) (sym (found ∙ ap (position (overlap (get_or hs i d))) is_later))

pub overlap_from-next : (hs later : List ProgramHeader) (i : ℕ) (d : ProgramHeader) → i < length hs
    → later ≡ drop (i + 1) hs → None ≡ position (overlap (get_or hs i d)) later
    → overlap_from i (drop i hs) ≡ overlap_from (i + 1) (drop (i + 1) hs)
overlap_from-next hs later i d within is_later none =
    overlap_from-step hs i d within
    ∙ ap (λ o. option_or (option_map (λ k. record { kind = 15; i = i; j = i + 1 + k }) o) (overlap_from (i + 1) (drop (i + 1) hs))) (sym (none ∙ ap (position (overlap (get_or hs i d))) is_later))
