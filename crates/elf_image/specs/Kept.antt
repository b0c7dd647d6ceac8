-- What an image keeps beside its file: numbers and tables of it that are looked up again and again.
use Rattle.std.specs.Prelude.{◌≡◌, ℕ, List, None}
use Rattle.elf_definition.specs.declared.segment.Segment.{Segment}
use Rattle.elf_definition.specs.declared.range.Range.{Range}
use Rattle.elf_definition.specs.Header.{header_of}
use Rattle.elf_definition.specs.Segments.{live}
use Rattle.elf_definition.specs.Area.{area}
use Rattle.elf_definition.specs.Fault.{elf_fault, IsRunsOf}
use Rattle.elf_definition.specs.Pages.{mapped_pages}
use Rattle.elf_definition.specs.ImageFault.{image_fault}

-- the segments of the layout and of the page table are those of the file, and the image passed its checks
pub record IsKeptImage (file : List ℕ) (entry : ℕ) (code : List Range) (laid stored : List Segment)
    (heap stack mapped : ℕ) : Type 0 where
  pub accepted : elf_fault file ≡ None
  pub same_entry : entry ≡ (header_of file).e_entry
  pub runs : IsRunsOf (area file) code
  pub same_layout : laid ≡ live file
  pub same_table : stored ≡ live file
  pub same_mapped : mapped ≡ mapped_pages (live file) heap stack
  pub passed : image_fault file code heap stack ≡ None
