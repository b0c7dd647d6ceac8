-- The memory of a program that was accepted.
use Rattle.std.specs.Prelude.{◌≡◌}
use Rattle.elf_definition.specs.Start.{Source, image_of, readable}
use Rattle.elf_definition.specs.Pages.{pages_below, count_below}
use Rattle.emit_program_laws.specs.LoadingCodeLaws.Images.{IsWhole}

-- It is pages of words, and as many are mapped as can be read. Each image is so.
pub record HasMappedPages (source : Source) : Type 0 where
  pub whole : IsWhole source
  pub mapped : (image_of source).mapped ≡ count_below (readable source) pages_below
