-- The ranges of a program's code, as units and leaders.
use Rattle.std.specs.Prelude.{ℕ, ◌≤◌, List, map, length, All, Option}
use Rattle.elf_definition.specs.Area.{area}
use Rattle.elf_definition.specs.Fault.{IsRunsOf}
use Rattle.elf_definition.specs.declared.range.Range.{Range}
use Rattle.elf_definition.specs.Start.{Source, image_of}
use Rattle.elf_image.specs.Whole.{IsWholeRange}
use Rattle.elf_image_parts.specs.declared.code.RangeCode.{RangeCode}
use Rattle.elf_image_parts.specs.Ranges.{IsRangeCode}
use Rattle.translate_program.specs.Places.{places_of}

-- which range that is
abbrev pub range_of : RangeCode → Range
range_of c = record { first = c.start; words = length c.units }

-- the units and leaders of a whole range of the code
pub record IsRangeOf (code : ℕ → Option ℕ) (c : RangeCode) : Type 0 where
  pub coded : IsRangeCode code (range_of c) c.units c.leads.items
  pub whole : IsWholeRange code (range_of c)

-- all ranges of a program, which have words for so many classes
pub record AreRangesOf (source : Source) (codes : List RangeCode) : Type 0 where
  pub ranges_are : IsRunsOf (area source.file) (map range_of codes)
  pub each : All (IsRangeOf (image_of source).code) codes
  pub some : 1 ≤ length (places_of (map range_of codes))
  pub few : length (places_of (map range_of codes)) ≤ 235
