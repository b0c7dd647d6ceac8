-- What making an image answers where it makes none.
use Rattle.std.specs.Prelude.{◌≡◌, ℕ, List, Option, Some}
use Rattle.elf_definition.specs.declared.range.Range.{Range}
use Rattle.elf_image.specs.declared.image_error.ImageError.{ImageError}
use Rattle.elf_definition.specs.declared.image_fault.ImageFault.{ImageFault}
use Rattle.elf_image.specs.declared.image_error.ImageError.TheVariants.{Refused, NoMemory}
use Rattle.elf_definition.specs.ImageFault.{image_fault}

-- an error is a check that failed; want of memory may come at any file
abbrev pub IsAnswer : Option ImageFault → ImageError → Type 0
IsAnswer found (Refused fault) = found ≡ Some fault
IsAnswer found NoMemory = Unit {0}

-- an error is the first check that fails; want of memory may come at any file
abbrev pub IsAnswerTo : List ℕ → List Range → ℕ → ℕ → ImageError → Type 0
IsAnswerTo file code heap stack (Refused fault) = image_fault file code heap stack ≡ Some fault
IsAnswerTo file code heap stack NoMemory = Unit {0}
