-- The checks from the name of a program's file to its image.
use Rattle.std.specs.Prelude.{◌≡◌, List, ℕ}
use Rattle.command_words.specs.declared.named.Named.{Named}
use Rattle.command_words.specs.declared.pages.Pages.{Pages}
use Rattle.elf_definition.specs.Area.{area}
use Rattle.elf_definition.specs.Fault.{elf_fault, IsRunsOf}
use Rattle.elf_definition.specs.declared.range.Range.{Range}
use Rattle.elf_definition.specs.ImageFault.{image_fault}
use Rattle.elf_definition.specs.Start.{Source}
use Rattle.nv_outside.specs.Files.{Files}
use Rattle.command_deeds.specs.declared.done.Done.TheVariants.{ElfRefused, ImageRefused}
use Rattle.command_deeds.specs.Checks.{Behind, Check, file_that_is_named, unless_fault}

abbrev pub source_of : Pages → List ℕ → Source
source_of pages file = record { file = file; heap = pages.heap; stack = pages.stack }

-- the file is a program, or fails this check first
abbrev pub elf_checked : Source → Check Source
elf_checked source = unless_fault (elf_fault source.file) ElfRefused source

-- a program has an image, or that fails this check first; the runs are those of its code
pub record IsImageChecked (source : Source) (check : Check Source) : Type 0 where
  pub runs : List Range
  pub are_runs : IsRunsOf (area source.file) runs
  pub is : check
      ≡ unless_fault (image_fault source.file runs source.heap source.stack) ImageRefused source

-- the checks of a file and of its image
abbrev pub IsImaged : Pages → List ℕ → Check Source → Type 0
IsImaged pages file check = Behind (elf_checked (source_of pages file)) IsImageChecked check

-- the same of a file that the words name, if it is there
abbrev pub IsImagedFrom : Named → Pages → Files → Check Source → Type 0
IsImagedFrom input pages files check = Behind (file_that_is_named files input) (IsImaged pages) check
