-- The pages and the code of an image end below 80000000 (hexadecimal).
use Rattle.std.proofs.Common.{◌≡◌, ℕ, ◌+◌, ◌-◌, ◌*◌, ◌^◌, ◌<◌, ◌≤◌, Bool, true, false, ◌&&◌, ◌||◌, ◌==◌, nat_lt, nat_le, List, [], ◌∷◌, length, get_or, Option, Some, None, refl, sym, subst, inl, inr, arith, ◌/◌}
use Rattle.std.specs.Prelude.{max, min}
use Rattle.std.specs.List.{All}
use Rattle.std.specs.Option.{option_or}
use Rattle.std.proofs.lemmas.Bool.{cases_Bool}
use Rattle.std.proofs.lemmas.Bool.Decides.{nat_tests}
use Rattle.std.proofs.lemmas.List.Folds.{Any-from_list_any, list_any_none}
use Rattle.elf_definition.specs.declared.elf_fault.ElfFault.{ElfFault}
use Rattle.elf_definition.specs.declared.segment.Segment.{Segment}
use Rattle.elf_definition.specs.Check.{first_fault}
use Rattle.elf_definition.specs.Header.{identity_fault, program_table_fault}
use Rattle.elf_definition.specs.Segments.{program_headers, live, segment_end, file_end, segment_fault, is_executable}
use Rattle.elf_definition.specs.Sections.{section_table_fault, section_fault, section_headers}
use Rattle.elf_definition.specs.Area.{area, area_fault, code_ranges, is_in_text}
use Rattle.elf_definition.specs.Fault.{elf_fault}
use Rattle.elf_reader.specs.Answer.{IsSound}
use Rattle.elf_reader.proofs.PassedLemmas.{area_text, text_low}
use Rattle.mips_definition.specs.State.{argument_page}
use Rattle.elf_definition.specs.Pages.{heap_page, is_on_page, is_segment_page, is_heap_page, is_stack_page, is_readable_page}

-- ---- the pages end low

page_off : (v e page : ℕ) → e ≤ 0x7F00_0000 → 524288 ≤ page → nat_lt (max v (4096 * page)) (min e (4096 * page + 4096)) ≡ false
page_off v e page low high = grind (arith, nat_tests)

pub segments_end : (segments : List Segment) → All (λ (s : Segment). segment_end s ≤ 0x7F00_0000) segments → (page : ℕ) → 524288 ≤ page → is_segment_page segments page ≡ false
unfolding is_segment_page
segments_end segments low page high =
    list_any_none (is_on_page page) segments
    (λ k d within. page_off (get_or segments k d).vaddr (segment_end (get_or segments k d)) page (low k d within) high)

others_end : (first heap stack page : ℕ) → first + heap ≤ 0x7ffff → 524288 ≤ page
    → ((nat_le first page && nat_lt page (first + heap)) || ((nat_le (0x7ffff - stack) page && nat_lt page 0x7ffff) || (page == 0x7ffff))) ≡ false
others_end first heap stack page ends high = grind (arith, nat_tests)

pub pages_end : (segments : List Segment) (heap stack : ℕ) → All (λ (s : Segment). segment_end s ≤ 0x7F00_0000) segments → heap_page segments + heap ≤ 0x7ffff
    → (page : ℕ) → 524288 ≤ page → is_readable_page segments heap stack page ≡ false
unfolding is_readable_page
pages_end segments heap stack low ends page high =
    three (is_segment_page segments page) (is_heap_page segments heap page) (is_stack_page stack page) (page == argument_page / 4096)
    (segments_end segments low page high) (others_end (heap_page segments) heap stack page ends high)
  where
    three : (a b c d : Bool) → a ≡ false → (b || (c || d)) ≡ false → (a || b || c || d) ≡ false
    three true b c d e f = absurd (cc)
    three false true c d e f = f
    three false false true d e f = f
    three false false false true e f = f
    three false false false false e f = f

-- ---- the code ends low

fifth_none : (a b c d e f : Option ElfFault) → option_or a (option_or b (option_or c (option_or d (option_or e f)))) ≡ None → e ≡ None
fifth_none None None None None None f h = refl
fifth_none None None None None (Some x) f h = absurd (cc)
fifth_none None None None (Some x) e f h = absurd (cc)
fifth_none None None (Some x) d e f h = absurd (cc)
fifth_none None (Some x) c d e f h = absurd (cc)
fifth_none (Some x) b c d e f h = absurd (cc)

sections_pass : (file : List ℕ) → elf_fault file ≡ None → section_fault (live file) (section_headers file) ≡ None
unfolding elf_fault
sections_pass file accepted =
    fifth_none (identity_fault file) (program_table_fault file) (segment_fault (length file) (program_headers file)) (section_table_fault file)
    (section_fault (live file) (section_headers file)) (first_fault (area_fault (code_ranges file) (live file) ∷ [])) accepted

pub code_low : (file : List ℕ) → elf_fault file ≡ None → All (IsSound (length file)) (live file) → (at : ℕ) → area file at ≡ true → at < 0x7F00_0000
code_low file accepted sound at on =
    let held = Any-from_list_any (is_in_text at) (live file) (area_text file (live file) (sections_pass file accepted) refl at on) in
    let t = get_or (live file) held.0 held.1 in
    let P : Segment → Type 0 = λ x. is_in_text at x ≡ true in
    let good = sound held.0 held.1 held.2 in
    text_low (is_executable t) t.vaddr (file_end t) at 0x7F00_0000 (subst P (sym held.3) held.4) (omega (arith, good.sizes, good.low))

pub code_end : (file : List ℕ) → elf_fault file ≡ None → All (IsSound (length file)) (live file) → (at : ℕ) → 2 ^ 31 ≤ at → area file at ≡ false
code_end file accepted sound at high =
    elim (cases_Bool (area file at)) [
      | inl on ↦ absurd (let low = code_low file accepted sound at on in omega (arith, low, high))
      | inr off ↦ off
    ]
