-- The code of a program that was accepted.
use Rattle.std.specs.Prelude.{◌≤◌, List, All}
use Rattle.elf_definition.specs.declared.range.Range.{Range}
use Rattle.elf_definition.specs.Area.{area}
use Rattle.elf_definition.specs.Fault.{IsRunsOf}
use Rattle.elf_definition.specs.ImageFault.{code_words}
use Rattle.elf_definition.specs.Start.{Source, image_of}
use Rattle.elf_image.specs.Whole.{IsWholeRange}

-- It has not too many words, and each of its runs is whole.
pub record HasWholeCode (source : Source) : Type 0 where
  -- how many words its runs have together
  pub words : (ranges : List Range) → IsRunsOf (area source.file) ranges
      → code_words ranges ≤ 1_048_576
  -- each word of them is there, and is none of the floating point unit
  pub whole : (ranges : List Range) → IsRunsOf (area source.file) ranges
      → All (IsWholeRange (image_of source).code) ranges
