-- The code of a program that was accepted.
use Rattle.std.specs.Prelude.{◌≤◌, List, length}
use Rattle.elf_definition.specs.declared.range.Range.{Range}
use Rattle.elf_definition.specs.Area.{area}
use Rattle.elf_definition.specs.Fault.{IsRunsOf}
use Rattle.elf_definition.specs.Start.{Source}
use Rattle.nv_translate.specs.WholeCode.{HasWholeCode}

-- It has not too many words, and its runs are whole and at most 64. Each image is so.
pub record HasAcceptedCode (source : Source) : Type 0 where
  pub whole : HasWholeCode source
  pub few : (ranges : List Range) → IsRunsOf (area source.file) ranges → length ranges ≤ 64
