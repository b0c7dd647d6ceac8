-- System V ABI, "Sections"
use Rattle.std.specs.Prelude.{ℕ, ◌+◌, ◌*◌, ◌%◌, Bool, not, ◌&&◌, ◌==◌, nat_lt, nat_le, if◌then◌else◌, List, [], ◌∷◌, length, map, position, Option}
use Rattle.std.specs.List.{range_with_len, list_any}
use Rattle.elf_definition.specs.declared.elf_fault.ElfFault.{ElfFault}
use Rattle.elf_definition.specs.declared.elf_header.ElfHeader.{ElfHeader}
use Rattle.elf_definition.specs.declared.segment.Segment.{Segment}
use Rattle.elf_definition.specs.declared.section_header.SectionHeader.{SectionHeader}
use Rattle.elf_definition.specs.Check.{fails, fails_at, first_fault, has_flag}
use Rattle.elf_definition.specs.Header.{header_of, word}
use Rattle.elf_definition.specs.Segments.{file_end, is_executable}

-- there are sections
abbrev pub has_sections : ElfHeader → Bool
has_sections header = not (header.e_shoff == 0) && not (header.e_shnum == 0)

-- the i-th section header, of 40 bytes
unfoldable pub section_header : List ℕ → ℕ → SectionHeader
section_header file i = let at = (header_of file).e_shoff + 40 * i in record {
  sh_type = word file (at + 4);
  sh_flags = word file (at + 8);
  sh_addr = word file (at + 12);
  sh_size = word file (at + 20);
}

-- the section header table, if there is one
unfoldable pub section_headers : List ℕ → List SectionHeader
section_headers file = let header = header_of file in
    if has_sections header then map (section_header file) (range_with_len 0 header.e_shnum) else []

-- a code section: SHT_PROGBITS with SHF_ALLOC and SHF_EXECINSTR, and not empty
abbrev pub is_code : SectionHeader → Bool
is_code s = s.sh_type == 1 && has_flag s.sh_flags 2 && has_flag s.sh_flags 4 && nat_lt 0 s.sh_size

-- a segment is executable, and the section lies within its bytes in the file
abbrev pub holds_section : SectionHeader → Segment → Bool
holds_section s segment =
    is_executable segment && nat_le segment.vaddr s.sh_addr
    && nat_le (s.sh_addr + s.sh_size) (file_end segment)

-- a code section lies within the bytes in the file of no executable segment of these
abbrev pub is_code_outside : List Segment → SectionHeader → Bool
is_code_outside segments s = is_code s && not (list_any (holds_section s) segments)

-- a code section begins at no multiple of 4
abbrev pub is_code_unaligned : SectionHeader → Bool
is_code_unaligned s = is_code s && not (s.sh_addr % 4 == 0)

-- the section header table, whose entries take 40 bytes, runs past the end of the file
abbrev pub is_section_table_outside : List ℕ → ElfHeader → Bool
is_section_table_outside file header = nat_lt (length file) (header.e_shoff + 40 * header.e_shnum)

-- the checks of where the section header table stands
unfoldable pub section_table_fault : List ℕ → Option ElfFault
section_table_fault file =
    let header = header_of file in
    first_fault
    (fails 17 (has_sections header && not (header.e_shentsize == 40))
    ∷ fails 18 (has_sections header && is_section_table_outside file header)
    ∷ [])

-- the checks of the section headers, beside the live segments
unfoldable pub section_fault : List Segment → List SectionHeader → Option ElfFault
section_fault segments sections =
    first_fault
    (fails_at 19 (position (is_code_outside segments) sections)
    ∷ fails_at 20 (position is_code_unaligned sections)
    ∷ [])
