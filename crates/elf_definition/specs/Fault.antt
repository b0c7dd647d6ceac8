-- What reading a file answers.
use Rattle.std.specs.Prelude.{ℕ, [], ◌≡◌, ◌%◌, ◌<◌, ◌≤◌, Bool, List, ◌∷◌, length, All, Option}
use Rattle.std.specs.List.{list_any, AllAdjacentBelow}
use Rattle.elf_definition.specs.declared.elf_fault.ElfFault.{ElfFault}
use Rattle.elf_definition.specs.declared.range.Range.{Range}
use Rattle.elf_definition.specs.Check.{first_fault}
use Rattle.elf_definition.specs.Header.{identity_fault, program_table_fault}
use Rattle.elf_definition.specs.Segments.{program_headers, live, segment_fault}
use Rattle.elf_definition.specs.Sections.{section_headers, section_table_fault, section_fault}
use Rattle.elf_definition.specs.Area.{code_ranges, area_fault, range_end, has_address}

-- the first of the 22 checks that a file fails
unfoldable pub elf_fault : List ℕ → Option ElfFault
elf_fault file =
    first_fault
    (identity_fault file
    ∷ program_table_fault file
    ∷ segment_fault (length file) (program_headers file)
    ∷ section_table_fault file
    ∷ section_fault (live file) (section_headers file)
    ∷ area_fault (code_ranges file) (live file)
    ∷ [])

-- the ranges are the maximal runs of words of an area, in rising order
pub record IsRunsOf (area : ℕ → Bool) (ranges : List Range) : Type 0 where
  -- no run is empty, and each begins at a word
  pub filled : All (λ r. 1 ≤ r.words) ranges
  pub aligned : All (λ r. r.first % 4 ≡ 0) ranges
  -- between two runs there is a word that is not in the area
  pub apart : AllAdjacentBelow (λ r s. range_end r < s.first) ranges (length ranges)
  -- an address is in the area exactly where it is in a run
  pub same : (at : ℕ) → area at ≡ list_any (has_address at) ranges
