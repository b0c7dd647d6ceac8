-- What follows of a file that passed every check of its headers.
use Rattle.std.proofs.Common.{◌≡◌, ℕ, ◌≤◌, true, false, List, [], ◌∷◌, length, get_or, filter, Option, None, arith, position, subst, sym}
use Rattle.std.specs.List.{All, AllPairs}
use Rattle.std.specs.Option.{option_or}
use Rattle.std.proofs.lemmas.Bool.Decides.{nat_tests}
use Rattle.std.proofs.lemmas.List.Elements.{All-filter, All-map, filter_passes}
use Rattle.elf_definition.specs.declared.elf_fault.ElfFault.{ElfFault}
use Rattle.elf_definition.specs.declared.segment.Segment.{Segment}
use Rattle.elf_definition.specs.declared.program_header.ProgramHeader.{ProgramHeader}
use Rattle.elf_definition.specs.Check.{fails_at, first_fault}
use Rattle.elf_definition.specs.Segments.{program_headers, live, is_live, is_too_high, segment_end, segment_fault, is_dynamic, is_outside, is_oversized, overlap_from, is_writable_text, IsApart}
use Rattle.elf_definition.specs.Header.{identity_fault, program_table_fault}
use Rattle.elf_definition.specs.Sections.{section_table_fault, section_fault, section_headers}
use Rattle.elf_definition.specs.Area.{area_fault, code_ranges}
use Rattle.elf_definition.specs.Fault.{elf_fault}
use Rattle.elf_reader.specs.Answer.{IsSound}
use Rattle.elf_reader.proofs.FaultLemmas.{segments_sound, fails_at_none, position_none_all}
use Rattle.elf_reader.proofs.PassedLemmas.{segments_apart, or_parts}

low_one : (h : ProgramHeader) → is_live h ≡ true → is_too_high h ≡ false → segment_end h.segment ≤ 0x7F00_0000
low_one h alive low = grind (arith, nat_tests)

third_none : (a b c d : Option ElfFault) → option_or a (option_or b (option_or c d)) ≡ None → c ≡ None
third_none a b c d e = (or_parts c d (or_parts b _ (or_parts a _ e).1).1).0

fourth_none : (a b c d e : Option ElfFault) → option_or a (option_or b (option_or c (option_or d e))) ≡ None → d ≡ None
fourth_none a b c d e h = third_none b c d e (or_parts a _ h).1

segments_pass : (file : List ℕ) → elf_fault file ≡ None → segment_fault (length file) (program_headers file) ≡ None
unfolding elf_fault
segments_pass file accepted =
    third_none (identity_fault file) (program_table_fault file) (segment_fault (length file) (program_headers file))
    (first_fault (section_table_fault file ∷ section_fault (live file) (section_headers file) ∷ area_fault (code_ranges file) (live file) ∷ []))
    accepted

all_low : (len : ℕ) (headers : List ProgramHeader) → segment_fault len headers ≡ None → All (λ h. is_too_high h ≡ false) headers
unfolding segment_fault
all_low len headers passed =
    position_none_all is_too_high headers (fails_at_none 14 (position is_too_high headers)
    (fourth_none (fails_at 11 (position is_dynamic headers)) (fails_at 12 (position (is_outside len) headers)) (fails_at 13 (position is_oversized headers))
    (fails_at 14 (position is_too_high headers))
    (first_fault (overlap_from 0 headers ∷ fails_at 16 (position is_writable_text headers) ∷ []))
    passed))

-- no live segment ends above 7F000000
pub live_low : (file : List ℕ) → elf_fault file ≡ None → All (λ (s : Segment). segment_end s ≤ 0x7F00_0000) (live file)
unfolding live
live_low file accepted =
    let headers = program_headers file in
    let lows = all_low (length file) headers (segments_pass file accepted) in
    All-map (λ (s : Segment). segment_end s ≤ 0x7F00_0000) (λ (h : ProgramHeader). h.segment) (filter is_live headers)
    (λ k d within. low_one (get_or (filter is_live headers) k d) (filter_passes is_live headers k d within) (All-filter is_live (λ h. is_too_high h ≡ false) headers lows k d within))

pub low_of : (file : List ℕ) (segments given : List Segment) → elf_fault file ≡ None → segments ≡ live file → given ≡ segments
    → All (λ (s : Segment). segment_end s ≤ 0x7F00_0000) given
low_of file segments given accepted are is_given =
    let P : List Segment → Type 0 = λ xs. All (λ (s : Segment). segment_end s ≤ 0x7F00_0000) xs in
    subst P (sym is_given) (subst P (sym are) (live_low file accepted))

pub sound_of : (file : List ℕ) (segments : List Segment) → elf_fault file ≡ None → segments ≡ live file → All (IsSound (length file)) segments
unfolding live
sound_of file segments accepted are =
    segments_sound (length file) (program_headers file) segments (segments_pass file accepted) are

pub apart_of : (file : List ℕ) (segments : List Segment) → elf_fault file ≡ None → segments ≡ live file → AllPairs IsApart segments
unfolding live
apart_of file segments accepted are =
    segments_apart (length file) (program_headers file) segments (segments_pass file accepted) are
