-- What reading a file answers.
use Rattle.std.specs.Prelude.{ℕ, ◌+◌, ◌≡◌, ◌<◌, ◌≤◌, Option, Some}
use Rattle.elf_reader.specs.declared.elf_error.ElfError.{ElfError}
use Rattle.elf_reader.specs.declared.elf_error.ElfError.TheVariants.{Refused, NoMemory}
use Rattle.elf_definition.specs.declared.elf_fault.ElfFault.{ElfFault}
use Rattle.elf_definition.specs.declared.segment.Segment.{Segment}
use Rattle.elf_definition.specs.Segments.{live, segment_end}

-- an error is the first fault; want of memory may come at any file
abbrev pub IsAnswer : Option ElfFault → ElfError → Type 0
IsAnswer found (Refused fault) = found ≡ Some fault
IsAnswer found NoMemory = Unit {0}

-- a live segment that passed the checks, in a file of this length
pub record IsSound (len : ℕ) (s : Segment) : Type 0 where
  pub live : 1 ≤ s.memsz
  -- it has no more bytes in the file than in memory, and these lie in the file
  pub sizes : s.filesz ≤ s.memsz
  pub inside : 0 < s.filesz → s.offset + s.filesz ≤ len
  pub low : segment_end s ≤ 0x7F00_0000
