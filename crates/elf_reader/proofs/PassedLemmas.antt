-- What the segments and the code of a file that passed have in common.
use Rattle.std.proofs.Common.{◌≡◌, ℕ, suc, ◌+◌, ◌-◌, ◌*◌, ◌/◌, ◌<◌, ◌≤◌, Bool, true, false, ◌&&◌, nat_lt, nat_le, List, [], ◌∷◌, map, filter, position, get_or, Option, Some, None, option_map, refl, sym, ap, ◌∙◌, subst, inl, inr, arith}
use Rattle.std.specs.List.{All, AllPairs, list_any}
use Rattle.std.specs.Option.{option_or}
use Rattle.std.proofs.lemmas.Bool.{cases_Bool}
use Rattle.std.proofs.lemmas.Bool.Decides.{nat_tests}
use Rattle.std.proofs.lemmas.List.Kept.{AllPairs-cons}
use Rattle.std.proofs.lemmas.List.Folds.{Any-from_list_any, list_any_at}
use Rattle.elf_definition.specs.declared.elf_fault.ElfFault.{ElfFault}
use Rattle.elf_definition.specs.declared.program_header.ProgramHeader.{ProgramHeader}
use Rattle.elf_definition.specs.declared.section_header.SectionHeader.{SectionHeader}
use Rattle.elf_definition.specs.declared.segment.Segment.{Segment}
use Rattle.elf_definition.specs.declared.range.Range.{Range}
use Rattle.elf_definition.specs.Check.{fails_at, first_fault}
use Rattle.elf_definition.specs.Header.{header_of}
use Rattle.elf_definition.specs.Segments.{live, file_end, is_executable, is_live, is_dynamic, is_outside, is_oversized, is_too_high, is_writable_text, overlap, overlap_from, segment_fault, IsApart}
use Rattle.elf_definition.specs.Sections.{has_sections, section_headers, is_code, holds_section, is_code_outside, is_code_unaligned, section_fault, section_table_fault}
use Rattle.elf_definition.specs.Area.{area, code_ranges, ranges_of, section_range, segment_range, range_end, has_address, is_in_text}
use Rattle.elf_reader.specs.Answer.{IsSound}
use Rattle.elf_definition.specs.Fault.{IsRunsOf}
use Rattle.elf_reader.proofs.FaultLemmas.{first_none, fails_at_none, position_none_all, kept_map, segment_nones}

pub or_parts : (a b : Option ElfFault) → option_or a b ≡ None → (a ≡ None) × (b ≡ None)
or_parts None b none = (refl, none)
or_parts (Some fault) b none = absurd (cc)

map_none : (f : ℕ → ElfFault) (o : Option ℕ) → option_map f o ≡ None → o ≡ None
map_none f None none = refl
map_none f (Some k) none = absurd (cc)

overlap_none : (i : ℕ) (hs : List ProgramHeader) → overlap_from i hs ≡ None → AllPairs (λ h g. overlap h g ≡ false) hs
unfolding overlap_from
overlap_none i [] none = λ a b d lt within. absurd (omega (arith, within))
overlap_none i (h ∷ later) none =
    let found : ℕ → ElfFault = λ k. record { kind = 15; i = i; j = i + 1 + k } in
    let parts = or_parts (option_map found (position (overlap h) later)) (overlap_from (i + 1) later) none in
    AllPairs-cons (λ h g. overlap h g ≡ false) h later
    (position_none_all (overlap h) later (map_none found (position (overlap h) later) parts.0))
    (overlap_none (i + 1) later parts.1)

last_false : (a b c : Bool) → a ≡ true → b ≡ true → (a && b && c) ≡ false → c ≡ false
last_false true true c ha hb none = none
last_false true false c ha hb none = absurd (cc)
last_false false b c ha hb none = absurd (cc)

live_apart : (hs : List ProgramHeader) → AllPairs (λ h g. overlap h g ≡ false) hs
    → AllPairs IsApart (map (λ (h : ProgramHeader). h.segment) (filter is_live hs))
live_apart [] pairs = λ a b d lt within. absurd (omega (arith, within))
live_apart (h ∷ rest) pairs =
    let more = live_apart rest (λ a b d lt within. pairs (suc a) (suc b) d (omega (arith, lt)) (omega (arith, within))) in
    elim (cases_Bool (is_live h)) [
      | inl alive ↦ rw alive (AllPairs-cons IsApart h.segment (map (λ (h : ProgramHeader). h.segment) (filter is_live rest))
          (kept_map (IsApart h.segment) (λ (g : ProgramHeader). g.segment) is_live rest
          (λ k d within on. last_false (is_live h) (is_live (get_or rest k d)) _ alive on (pairs 0 (suc k) d (omega arith) (omega (arith, within)))))
          more)
      | inr over ↦ rw over more
    ]

-- the live segments of a file that passed share no address
pub segments_apart : (len : ℕ) (headers : List ProgramHeader) (segments : List Segment) → segment_fault len headers ≡ None
    → segments ≡ map (λ (h : ProgramHeader). h.segment) (filter is_live headers) → AllPairs IsApart segments
unfolding segment_fault
segments_apart len headers segments none is_live_ones =
    let parts = segment_nones (fails_at 11 (position is_dynamic headers)) (fails_at 12 (position (is_outside len) headers))
    (fails_at 13 (position is_oversized headers)) (fails_at 14 (position is_too_high headers)) (overlap_from 0 headers)
    (fails_at 16 (position is_writable_text headers)) none in
    let P : List Segment → Type 0 = λ xs. AllPairs IsApart xs in
    subst P (sym is_live_ones) (live_apart headers (overlap_none 0 headers parts.3))

-- an address of a code section, and of a segment's words
section_text : (x : Bool) (v fe a size at : ℕ) → (x && nat_le v a && nat_le (a + size) fe) ≡ true
    → (nat_le a at && nat_lt at (a + 4 * (size / 4))) ≡ true → (x && nat_le v at && nat_lt at fe) ≡ true
section_text x v fe a size at held has = grind (arith, nat_tests)

segment_text : (x : Bool) (v f at : ℕ) → x ≡ true
    → (nat_le ((v + 3) / 4 * 4) at && nat_lt at ((v + 3) / 4 * 4 + 4 * ((v + f) / 4 - (v + 3) / 4))) ≡ true
    → (x && nat_le v at && nat_lt at (v + f)) ≡ true
segment_text x v f at may has = grind (arith, nat_tests)

in_file : (segments : List Segment) (s : SectionHeader) → is_code_outside segments s ≡ false → is_code s ≡ true → list_any (holds_section s) segments ≡ true
in_file segments s outside code = grind (arith, nat_tests)

section_in_text : (at : ℕ) (segments : List Segment) (s : SectionHeader) → list_any (holds_section s) segments ≡ true
    → has_address at (section_range s) ≡ true → list_any (is_in_text at) segments ≡ true
section_in_text at segments s held has =
    let some = Any-from_list_any (holds_section s) segments held in
    let t = get_or segments some.0 some.1 in
    let P : Segment → Type 0 = λ x. holds_section s x ≡ true in
    list_any_at (is_in_text at) segments some.0 some.1 some.2
    (section_text (is_executable t) t.vaddr (file_end t) s.sh_addr s.sh_size at (subst P (sym some.3) some.4) has)

ranges_text : (at : ℕ) (with_sections : Bool) (sections : List SectionHeader) (segments : List Segment) → section_fault segments sections ≡ None
    → All (λ (r : Range). has_address at r ≡ true → list_any (is_in_text at) segments ≡ true) (ranges_of with_sections sections segments)
unfolding section_fault
ranges_text at true sections segments none =
    let first = first_none (fails_at 19 (position (is_code_outside segments) sections)) (fails_at 20 (position is_code_unaligned sections) ∷ []) none in
    let held = position_none_all (is_code_outside segments) sections (fails_at_none 19 _ first.0) in
    kept_map (λ (r : Range). has_address at r ≡ true → list_any (is_in_text at) segments ≡ true) section_range is_code sections
    (λ k d within code has. section_in_text at segments (get_or sections k d) (in_file segments (get_or sections k d) (held k d within) code) has)
ranges_text at false sections segments none =
    kept_map (λ (r : Range). has_address at r ≡ true → list_any (is_in_text at) segments ≡ true) segment_range is_executable segments
    (λ k d within may has. list_any_at (is_in_text at) segments k d within
    (segment_text (is_executable (get_or segments k d)) (get_or segments k d).vaddr (get_or segments k d).filesz at may has))

-- the code area lies in the bytes in the file of the executable segments
pub area_text : (file : List ℕ) (segments : List Segment) → section_fault (live file) (section_headers file) ≡ None → segments ≡ live file
    → (at : ℕ) → area file at ≡ true → list_any (is_in_text at) segments ≡ true
unfolding area code_ranges
area_text file segments none is_live_ones at covered =
    let ranges = ranges_of (has_sections (header_of file)) (section_headers file) (live file) in
    let some = Any-from_list_any (has_address at) ranges covered in
    let P : Range → Type 0 = λ r. has_address at r ≡ true in
    ap (list_any (is_in_text at)) is_live_ones
    ∙ ranges_text at (has_sections (header_of file)) (section_headers file) (live file) none some.0 some.1 some.2 (subst P (sym some.3) some.4)

pub last_address : (f w : ℕ) → 1 ≤ w → (nat_le f (f + 4 * w - 1) && nat_lt (f + 4 * w - 1) (f + 4 * w)) ≡ true
last_address f w some = grind (arith, nat_tests)

pub text_low : (x : Bool) (v fe at limit : ℕ) → (x && nat_le v at && nat_lt at fe) ≡ true → fe ≤ limit → at < limit
text_low x v fe at limit held low = grind (arith, nat_tests)

-- so the runs end low
pub runs_low : (len : ℕ) (test : ℕ → Bool) (runs : List Range) (segments : List Segment) → IsRunsOf test runs → All (IsSound len) segments
    → ((at : ℕ) → test at ≡ true → list_any (is_in_text at) segments ≡ true)
    → All (λ (r : Range). range_end r ≤ 0x7F00_0000) runs
runs_low len test runs segments are_runs sound text k d within =
    let r = get_or runs k d in
    let at = range_end r - 1 in
    let some = are_runs.filled k d within in
    let covered = are_runs.same at ∙ list_any_at (has_address at) runs k d within (last_address r.first r.words some) in
    let held = Any-from_list_any (is_in_text at) segments (text at covered) in
    let t = get_or segments held.0 held.1 in
    let P : Segment → Type 0 = λ x. is_in_text at x ≡ true in
    let good = sound held.0 held.1 held.2 in
    let low = text_low (is_executable t) t.vaddr (file_end t) at 0x7F00_0000 (subst P (sym held.3) held.4) (omega (arith, good.sizes, good.low)) in
    omega (arith, low, some)

pub section_passed : (file : List ℕ) (segments : List Segment)
    → first_fault (section_table_fault file ∷ section_fault segments (section_headers file) ∷ []) ≡ None
    → segments ≡ live file → section_fault (live file) (section_headers file) ≡ None
section_passed file segments none is_live_ones =
    let first = first_none (section_table_fault file) (section_fault segments (section_headers file) ∷ []) none in
    let second = first_none (section_fault segments (section_headers file)) [] first.1 in
    let P : List Segment → Type 0 = λ xs. section_fault xs (section_headers file) ≡ None in
    subst P is_live_ones second.0
