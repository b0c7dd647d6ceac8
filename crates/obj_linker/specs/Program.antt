-- The file of a program, whose image is the text and behind it the data.
use Rattle.std.specs.Prelude.{◌≡◌, ℕ, ◌-◌, nat_lt, if◌then◌else◌, List, [], ◌∷◌, map, take, drop}
use Rattle.elf_definition.specs.declared.parts.Parts.{Parts}
use Rattle.elf_definition.specs.declared.sec.Sec.{Sec}
use Rattle.elf_definition.specs.Parts.{PartSegment, part_segment}
use Rattle.elf_definition.specs.File.{elf_file}
use Rattle.obj_linker.specs.Layout.{data_start, text_start}

-- the text, up to its end: to be read and executed
abbrev pub text_segment : List ℕ → ℕ → PartSegment
text_segment image text_end = record {
  address = text_start;
  flags = 5;
  memory = text_end - text_start;
  contents = take (text_end - text_start) image;
}

-- the data, and zeros behind it up to their end: to be read and written, where there is any memory
abbrev pub linked_data : List ℕ → ℕ → ℕ → List PartSegment
linked_data image text_end zeros_end =
    if nat_lt data_start zeros_end then record {
      address = data_start;
      flags = 6;
      memory = zeros_end - data_start;
      contents = drop (text_end - text_start) image;
    } ∷ []
    else []

-- the code: SHT_PROGBITS with SHF_ALLOC and SHF_EXECINSTR
abbrev pub code_section : ℕ → Sec
code_section code_end =
    record { kind = 1; flags = 6; addr = text_start; size = code_end - text_start }

-- what the file is written of, where the program begins at an address, and the code, the text and the zeros have
-- these ends
pub record IsLinkedParts (at : ℕ) (image : List ℕ) (code_end text_end zeros_end : ℕ) (parts : Parts)
    : Type 0 where
  pub entry : parts.entry ≡ at
  pub segments :
      map part_segment parts.segments.items
      ≡ text_segment image text_end ∷ linked_data image text_end zeros_end
  pub sections : parts.sections.items ≡ code_section code_end ∷ []

abbrev pub IsLinkedFile : ℕ → List ℕ → ℕ → ℕ → ℕ → List ℕ → Type 0
IsLinkedFile at image code_end text_end zeros_end file =
    (parts : Parts) × IsLinkedParts at image code_end text_end zeros_end parts × (file ≡ elf_file parts)
