-- Why a file that is in order has no image: the first of seven checks that fails.
use Rattle.std.specs.Prelude.{ℕ, ◌+◌, ◌*◌, ◌<◌, nat_lt, if◌then◌else◌, List, [], ◌∷◌, length, sum_by, Option, Some, None, option_map}
use Rattle.std.specs.Option.{option_or}
use Rattle.std.specs.List.{AllAdjacentBelow}
use Rattle.elf_definition.specs.Area.{range_end}
use Rattle.elf_definition.specs.declared.segment.Segment.{Segment}
use Rattle.elf_definition.specs.declared.range.Range.{Range}
use Rattle.elf_definition.specs.Check.{least_below}
use Rattle.elf_definition.specs.Segments.{live}
use Rattle.elf_definition.specs.declared.image_fault.ImageFault.{ImageFault}
use Rattle.elf_definition.specs.Pages.{pages_below, count_below, is_shared, mapped_pages}
use Rattle.elf_definition.specs.Content.{stored_code_word, is_filled_page}
use Rattle.mips_definition.specs.Table.{is_float}

-- a check of a number against its limit
abbrev pub exceeds : ℕ → ℕ → ℕ → Option ImageFault
exceeds kind limit number = if nat_lt limit number
    then Some (record { kind = kind; number = number; word = 0 }) else None

-- between two runs that follow one another there is a word that is in neither
abbrev pub IsApart : List Range → Type 0
IsApart code = AllAdjacentBelow (λ r s. range_end r < s.first) code (length code)

-- the words of the code area, which are those of its maximal runs
abbrev pub code_words : List Range → ℕ
code_words code = sum_by (λ r. r.words) code

-- the first address of a run whose word is a floating-point instruction
abbrev pub float_in : List ℕ → List Segment → Range → Option ℕ
float_in file segments r =
    option_map (λ k. r.first + 4 * k)
    (least_below (λ k. is_float (stored_code_word file segments (r.first + 4 * k))) r.words)

-- the same of runs that rise
unfoldable pub first_float : List ℕ → List Segment → List Range → Option ℕ
first_float file segments [] = None
first_float file segments (r ∷ code) =
    option_or (float_in file segments r) (first_float file segments code)

-- the checks of the sizes of the file and of its code
unfoldable pub size_fault : ℕ → List Range → Option ImageFault
size_fault len code =
    option_or (exceeds 1 67_108_864 len)
    (option_or (exceeds 2 1_048_576 (code_words code)) (exceeds 3 64 (length code)))

-- the check of how many pages are mapped
abbrev pub pages_fault : List Segment → ℕ → ℕ → Option ImageFault
pages_fault segments heap stack = exceeds 4 65_536 (mapped_pages segments heap stack)

-- the check of how many pages of the segments hold a byte that is not 0
abbrev pub data_fault : List ℕ → List Segment → Option ImageFault
data_fault file segments = exceeds 5 16_384 (count_below (is_filled_page file segments) pages_below)

-- the check that no page is for two things
abbrev pub layout_fault : List Segment → ℕ → ℕ → Option ImageFault
layout_fault segments heap stack =
    option_map (λ page. record { kind = 6; number = page; word = 0 })
    (least_below (is_shared segments heap stack) pages_below)

-- the check of the code's instructions
abbrev pub float_fault : List ℕ → List Segment → List Range → Option ImageFault
float_fault file segments code =
    option_map (λ at. record { kind = 7; number = at; word = stored_code_word file segments at })
    (first_float file segments code)

-- the first check that fails, for a file, the maximal runs of its code area in rising order, and pages of heap and stack
unfoldable pub image_fault : List ℕ → List Range → ℕ → ℕ → Option ImageFault
image_fault file code heap stack =
    option_or (size_fault (length file) code)
    (option_or (pages_fault (live file) heap stack)
    (option_or (data_fault file (live file))
    (option_or (layout_fault (live file) heap stack) (float_fault file (live file) code))))
