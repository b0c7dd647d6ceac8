-- What holds of a file that passed checks.
use Rattle.std.proofs.Common.{◌≡◌, ℕ, zero, suc, ◌+◌, ◌-◌, ◌*◌, ◌/◌, ◌%◌, ◌^◌, ◌≤◌, Bool, true, false, List, [], ◌∷◌, map, filter, position, get_or, Option, Some, None, refl, sym, ap, ◌∙◌, subst, inl, inr, arith}
use Rattle.std.specs.List.{All, list_any, position_from}
use Rattle.std.proofs.lemmas.Bool.{cases_Bool}
use Rattle.std.proofs.lemmas.Bool.Decides.{nat_tests}
use Rattle.std.proofs.lemmas.Iterator.Adapters.{position_from-zero}
use Rattle.elf_definition.specs.declared.elf_fault.ElfFault.{ElfFault}
use Rattle.elf_definition.specs.declared.program_header.ProgramHeader.{ProgramHeader}
use Rattle.elf_definition.specs.declared.segment.Segment.{Segment}
use Rattle.elf_definition.specs.Check.{fails_at, first_fault}
use Rattle.elf_definition.specs.declared.section_header.SectionHeader.{SectionHeader}
use Rattle.elf_definition.specs.declared.range.Range.{Range}
use Rattle.elf_definition.specs.Area.{area, area_fault, code_ranges, has_address, ranges_of, section_range, segment_range, range_end}
use Rattle.elf_definition.specs.Sections.{has_sections, section_headers, is_code, holds_section, is_code_outside, is_code_unaligned, section_fault, section_table_fault}
use Rattle.std.proofs.lemmas.List.Folds.{Any-from_list_any}
use Rattle.elf_reader.specs.Answer.{IsSound, IsAnswer}
use Rattle.elf_definition.specs.Fault.{IsRunsOf}
use Rattle.elf_definition.specs.Header.{header_of}
use Rattle.elf_definition.specs.declared.elf_header.ElfHeader.{ElfHeader}
use Rattle.elf_reader.specs.declared.elf_error.ElfError.{ElfError}
use Rattle.std.specs.Option.{option_or}
use Rattle.elf_definition.specs.Segments.{live, file_end, is_executable, is_live, is_dynamic, is_writable_text, overlap_from, is_outside, is_oversized, is_too_high, segment_fault}

-- where no check of a list fails, none does
pub first_none : (check : Option ElfFault) (checks : List (Option ElfFault)) → first_fault (check ∷ checks) ≡ None
    → (check ≡ None) × (first_fault checks ≡ None)
first_none None checks none = (refl, none)
first_none (Some fault) checks none = absurd (cc)

pub fails_at_none : (kind : ℕ) (place : Option ℕ) → fails_at kind place ≡ None → place ≡ None
fails_at_none kind None none = refl
fails_at_none kind (Some i) none = absurd (cc)

some_none : (i : ℕ) → Some i ≡ None → ⊥
some_none i e = cc

all_more : {X : Type 0} (P : X → Type 0) (x : X) (xs : List X) → P x → All P xs → All P (x ∷ xs)
all_more P x xs first more zero d within = first
all_more P x xs first more (suc k) d within = more k d (omega (arith, within))

from_none : {X : Type 0} (test : X → Bool) (i : ℕ) (xs : List X) → position_from test i xs ≡ None → All (λ x. test x ≡ false) xs
from_none test i [] none = λ k d within. absurd (omega (arith, within))
from_none test i (x ∷ xs) none =
    elim (cases_Bool (test x)) [
      | inl passes ↦ absurd (some_none i (rw passes at none))
      | inr fails ↦ all_more (λ x. test x ≡ false) x xs fails (from_none test (i + 1) xs (rw fails at none))
    ]

-- where there is no first element that passes, none does
pub position_none_all : {X : Type 0} (test : X → Bool) (xs : List X) → position test xs ≡ None → All (λ x. test x ≡ false) xs
position_none_all test xs none = from_none test 0 xs (sym (position_from-zero test xs) ∙ none)

-- a live segment that passed
header_sound : (len : ℕ) (h : ProgramHeader) → is_outside len h ≡ false → is_oversized h ≡ false → is_too_high h ≡ false
    → is_live h ≡ true → IsSound len h.segment
header_sound len h in_file sized low alive = record {
  live = grind (arith, nat_tests);
  sizes = grind (arith, nat_tests);
  inside = λ some. grind (arith, nat_tests);
  low = grind (arith, nat_tests);
}

pub segment_nones : (a b c d e f : Option ElfFault) → first_fault (a ∷ b ∷ c ∷ d ∷ e ∷ f ∷ []) ≡ None
    → (b ≡ None) × (c ≡ None) × (d ≡ None) × (e ≡ None)
segment_nones a b c d e f none =
    let past_a = first_none a (b ∷ c ∷ d ∷ e ∷ f ∷ []) none in
    let past_b = first_none b (c ∷ d ∷ e ∷ f ∷ []) past_a.1 in
    let past_c = first_none c (d ∷ e ∷ f ∷ []) past_b.1 in
    let past_d = first_none d (e ∷ f ∷ []) past_c.1 in
    let past_e = first_none e (f ∷ []) past_d.1 in
    (past_b.0, past_c.0, past_d.0, past_e.0)

pub headers_sound : (len : ℕ) (headers : List ProgramHeader) → segment_fault len headers ≡ None
    → All (λ (h : ProgramHeader). is_live h ≡ true → IsSound len h.segment) headers
unfolding segment_fault
headers_sound len headers none =
    let parts = segment_nones (fails_at 11 (position is_dynamic headers)) (fails_at 12 (position (is_outside len) headers))
    (fails_at 13 (position is_oversized headers)) (fails_at 14 (position is_too_high headers)) (overlap_from 0 headers)
    (fails_at 16 (position is_writable_text headers)) none in
    let in_file = position_none_all (is_outside len) headers (fails_at_none 12 _ parts.0) in
    let sized = position_none_all is_oversized headers (fails_at_none 13 _ parts.1) in
    let low = position_none_all is_too_high headers (fails_at_none 14 _ parts.2) in
    λ k e within alive. header_sound len (get_or headers k e) (in_file k e within) (sized k e within) (low k e within) alive

-- what holds of each that is kept and mapped
pub kept_map : {X Y : Type 0} (P : Y → Type 0) (f : X → Y) (test : X → Bool) (xs : List X) → All (λ x. test x ≡ true → P (f x)) xs
    → All P (map f (filter test xs))
kept_map P f test [] holds = λ k d within. absurd (omega (arith, within))
kept_map P f test (x ∷ rest) holds =
    let more = kept_map P f test rest (λ j e inside. holds (suc j) e (omega (arith, inside))) in
    elim (cases_Bool (test x)) [
      | inl passes ↦ rw passes (all_more P (f x) (map f (filter test rest)) (holds 0 x (omega arith) passes) more)
      | inr fails ↦ rw fails more
    ]

-- the live segments of a file that passed
pub segments_sound : (len : ℕ) (headers : List ProgramHeader) (segments : List Segment) → segment_fault len headers ≡ None
    → segments ≡ map (λ (h : ProgramHeader). h.segment) (filter is_live headers) → All (IsSound len) segments
segments_sound len headers segments none is_live_ones =
    let P : List Segment → Type 0 = λ xs. All (IsSound len) xs in
    subst P (sym is_live_ones) (kept_map (IsSound len) (λ (h : ProgramHeader). h.segment) is_live headers (headers_sound len headers none))

-- the ranges of code begin at words and end low
abbrev pub IsPlaced : Range → Type 0
IsPlaced r = (r.first % 4 ≡ 0) × (range_end r ≤ 0x7F00_0000)

segment_placed : (s : Segment) → (1 ≤ s.memsz) × (file_end s ≤ 0x7F00_0000) → s.vaddr ≤ 0x7F00_0000 → IsPlaced (segment_range s)
segment_placed s low first = placed s.vaddr s.filesz low.1 first
  where
    placed : (v f : ℕ) → v + f ≤ 0x7F00_0000 → v ≤ 0x7F00_0000
        → ((v + 3) / 4 * 4 % 4 ≡ 0) × ((v + 3) / 4 * 4 + 4 * ((v + f) / 4 - (v + 3) / 4) ≤ 0x7F00_0000)
    placed v f end first = (omega (arith, end, first), omega (arith, end, first))

section_placed : (segments : List Segment) (s : SectionHeader) → All (λ (s : Segment). (1 ≤ s.memsz) × (file_end s ≤ 0x7F00_0000)) segments
    → is_code_outside segments s ≡ false → is_code_unaligned s ≡ false → is_code s ≡ true → IsPlaced (section_range s)
section_placed segments s low in_file aligned code =
    let held : list_any (holds_section s) segments ≡ true = grind (arith, nat_tests) in
    let some = Any-from_list_any (holds_section s) segments held in
    let low_one = subst_low (get_or segments some.0 some.1) some.1 some.3 (low some.0 some.1 some.2) in
    (grind (arith, nat_tests), ends s some.1 some.4 low_one)
  where
    subst_low : (t u : Segment) → t ≡ u → (1 ≤ t.memsz) × (file_end t ≤ 0x7F00_0000) → file_end u ≤ 0x7F00_0000
    subst_low t u same low = let P : Segment → Type 0 = λ x. file_end x ≤ 0x7F00_0000 in subst P same low.1

    ends : (s : SectionHeader) (t : Segment) → holds_section s t ≡ true → file_end t ≤ 0x7F00_0000 → range_end (section_range s) ≤ 0x7F00_0000
    ends s t held low =
        let le : s.sh_addr + s.sh_size ≤ file_end t = grind (arith, nat_tests) in
        omega (arith, le, low)

pub ranges_placed : (with_sections : Bool) (sections : List SectionHeader) (segments : List Segment)
    → All (λ (s : Segment). (1 ≤ s.memsz) × (file_end s ≤ 0x7F00_0000)) segments → section_fault segments sections ≡ None
    → All IsPlaced (ranges_of with_sections sections segments)
unfolding section_fault
ranges_placed true sections segments low none =
    let a = first_none (fails_at 19 (position (is_code_outside segments) sections)) (fails_at 20 (position is_code_unaligned sections) ∷ []) none in
    let b = first_none (fails_at 20 (position is_code_unaligned sections)) [] a.1 in
    let in_file = position_none_all (is_code_outside segments) sections (fails_at_none 19 _ a.0) in
    let aligned = position_none_all is_code_unaligned sections (fails_at_none 20 _ b.0) in
    kept_map IsPlaced section_range is_code sections
    (λ k d within code. section_placed segments (get_or sections k d) low (in_file k d within) (aligned k d within) code)
ranges_placed false sections segments low none =
    kept_map IsPlaced segment_range is_executable segments
    (λ k d within may. segment_placed (get_or segments k d) (low k d within) (omega (arith, (low k d within).1)))

pub placed_low : (ranges given : List Range) → given ≡ ranges → All IsPlaced ranges → All (λ (r : Range). range_end r ≤ 2 ^ 32) given
placed_low ranges given same placed =
    let P : List Range → Type 0 = λ xs. All (λ (r : Range). range_end r ≤ 2 ^ 32) xs in
    subst P (sym same) (λ k d within. let low = (placed k d within).1 in omega (arith, low))

pub placed_aligned : (ranges given : List Range) → given ≡ ranges → All IsPlaced ranges → All (λ (r : Range). r.first % 4 ≡ 0) given
placed_aligned ranges given same placed =
    let P : List Range → Type 0 = λ xs. All (λ (r : Range). r.first % 4 ≡ 0) xs in
    subst P (sym same) (λ k d within. (placed k d within).0)

-- the last of three checks, where the first two passed
or_none : (a : Option ElfFault) → option_or a None ≡ a
or_none None = refl
or_none (Some fault) = refl

pub last_fault : (t s s' a a' : Option ElfFault) → first_fault (t ∷ s ∷ []) ≡ None → s ≡ s' → a ≡ a' → a ≡ first_fault (t ∷ s' ∷ a' ∷ [])
last_fault t s s' a a' none same known =
    let parts = first_none t (s ∷ []) none in
    let rest = first_none s [] parts.1 in
    known ∙ sym (or_none a')
    ∙ sym (ap (λ x. option_or x (option_or a' None)) (sym same ∙ rest.0))
    ∙ sym (ap (λ x. option_or x (option_or s' (option_or a' None))) parts.0)

-- the ranges of a file
pub ranges_known : (file : List ℕ) (header : ElfHeader) (sections given : List SectionHeader) (segments : List Segment) → header ≡ header_of file
    → sections ≡ section_headers file → given ≡ sections → segments ≡ live file → ranges_of (has_sections header) given segments ≡ code_ranges file
unfolding code_ranges
ranges_known file header sections given segments is_header is_sections is_given is_live_ones =
    ap (λ h. ranges_of (has_sections h) given segments) is_header
    ∙ ap (λ xs. ranges_of (has_sections (header_of file)) xs segments) (is_given ∙ is_sections)
    ∙ ap (λ xs. ranges_of (has_sections (header_of file)) (section_headers file) xs) is_live_ones

-- an answer, runs, in other words
pub answer_known : (found found' : Option ElfFault) (e : ElfError) → found ≡ found' → IsAnswer found e → IsAnswer found' e
answer_known found found' e same answer = let P : Option ElfFault → Type 0 = λ x. IsAnswer x e in subst P same answer

pub runs_known : (file : List ℕ) (ranges out : List Range) → ranges ≡ code_ranges file
    → IsRunsOf (λ at. list_any (has_address at) ranges) out → IsRunsOf (area file) out
unfolding area
runs_known file ranges out same runs = record {
  filled = runs.filled;
  aligned = runs.aligned;
  apart = runs.apart;
  same = λ at. sym (ap (list_any (has_address at)) same) ∙ runs.same at;
}

-- the checks from the section header table on, where those before the area passed
pub code_first : (file : List ℕ) (header : ElfHeader) (sections given : List SectionHeader) (segments : List Segment) → header ≡ header_of file
    → sections ≡ section_headers file → given ≡ sections → segments ≡ live file
    → first_fault (section_table_fault file ∷ section_fault segments (section_headers file) ∷ []) ≡ None
    → area_fault (ranges_of (has_sections header) given segments) segments
    ≡ first_fault (section_table_fault file ∷ section_fault (live file) (section_headers file) ∷ area_fault (code_ranges file) (live file) ∷ [])
code_first file header sections given segments is_header is_sections is_given is_live_ones none =
    last_fault (section_table_fault file) (section_fault segments (section_headers file)) (section_fault (live file) (section_headers file))
    (area_fault (ranges_of (has_sections header) given segments) segments) (area_fault (code_ranges file) (live file)) none
    (ap (λ xs. section_fault xs (section_headers file)) is_live_ones)
    (ap (λ rs. area_fault rs segments) (ranges_known file header sections given segments is_header is_sections is_given is_live_ones)
    ∙ ap (area_fault (code_ranges file)) is_live_ones)
