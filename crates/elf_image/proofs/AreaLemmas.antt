-- The code of a file that passed every check is not empty.
use Rattle.std.proofs.Common.{◌≡◌, ℕ, ◌<◌, ◌≤◌, ◌==◌, ◌&&◌, ◌||◌, Bool, true, false, List, [], ◌∷◌, length, Option, None, refl, inl, inr, arith}
use Rattle.std.specs.List.{list_any, list_all}
use Rattle.std.specs.Option.{option_or}
use Rattle.std.proofs.lemmas.Bool.{cases_lt}
use Rattle.std.proofs.lemmas.Bool.Decides.{nat_tests}
use Rattle.elf_definition.specs.declared.elf_fault.ElfFault.{ElfFault}
use Rattle.elf_definition.specs.declared.range.Range.{Range}
use Rattle.elf_definition.specs.Check.{fails}
use Rattle.elf_definition.specs.Header.{identity_fault, program_table_fault}
use Rattle.elf_definition.specs.Segments.{program_headers, live, segment_fault}
use Rattle.elf_definition.specs.Sections.{section_table_fault, section_fault, section_headers}
use Rattle.elf_definition.specs.Area.{area, area_fault, code_ranges, has_address}
use Rattle.elf_definition.specs.Fault.{elf_fault, IsRunsOf}
use Rattle.elf_reader.proofs.PassedLemmas.{or_parts}

sixth_none : (a b c d e f : Option ElfFault) → option_or a (option_or b (option_or c (option_or d (option_or e (option_or f None))))) ≡ None → f ≡ None
sixth_none a b c d e f none = (or_parts f None (or_parts e _ (or_parts d _ (or_parts c _ (or_parts b _ (or_parts a _ none).1).1).1).1).1).0

area_passes : (file : List ℕ) → elf_fault file ≡ None → area_fault (code_ranges file) (live file) ≡ None
unfolding elf_fault
area_passes file accepted =
    sixth_none (identity_fault file) (program_table_fault file) (segment_fault (length file) (program_headers file)) (section_table_fault file)
    (section_fault (live file) (section_headers file)) (area_fault (code_ranges file) (live file)) accepted

not_failed : (kind : ℕ) (failed : Bool) → fails kind failed ≡ None → failed ≡ false
not_failed kind true none = absurd cc
not_failed kind false none = refl

not_empty : (file : List ℕ) → elf_fault file ≡ None → list_all (λ (r : Range). r.words == 0) (code_ranges file) ≡ false
unfolding area_fault
not_empty file accepted =
    let ranges = code_ranges file in
    let parts = or_parts (fails 21 (list_all (λ (r : Range). r.words == 0) ranges)) _ (area_passes file accepted) in
    not_failed 21 (list_all (λ (r : Range). r.words == 0) ranges) parts.0

-- a range that has words has an address
here : (r : Range) (others : Bool) → 0 < r.words → (has_address r.first r || others) ≡ true
here r others some = grind (arith, nat_tests)

passed_over : (r : Range) (others : Bool) → r.words ≤ 0 → ((r.words == 0) && others) ≡ false → others ≡ false
passed_over r others none all = grind (arith, nat_tests)

left_over : (a b : Bool) → (a || b) ≡ false → b ≡ false
left_over true b none = absurd cc
left_over false b none = none

some_address : (ranges : List Range) → list_all (λ (r : Range). r.words == 0) ranges ≡ false → ((at : ℕ) → list_any (has_address at) ranges ≡ false) → ⊥
some_address [] all none = cc
some_address (r ∷ ranges) all none = elim (cases_lt 0 r.words) [
  | inl some ↦ let found = here r (list_any (has_address r.first) ranges) some in let off = none r.first in cc
  | inr empty ↦ some_address ranges (passed_over r (list_all (λ (x : Range). x.words == 0) ranges) empty all)
      (λ at. left_over (has_address at r) (list_any (has_address at) ranges) (none at))
]

pub some_runs : (file : List ℕ) (code : List Range) → elf_fault file ≡ None → IsRunsOf (area file) code → 1 ≤ length code
unfolding area
some_runs file [] accepted runs = absurd (some_address (code_ranges file) (not_empty file accepted) (λ at. runs.same at))
some_runs file (r ∷ code) accepted runs = omega arith
