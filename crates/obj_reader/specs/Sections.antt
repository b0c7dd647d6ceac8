-- System V ABI, "Object Files": a relocatable object and its sections.
use Rattle.std.specs.Prelude.{ℕ, ◌+◌, ◌*◌, ◌%◌, Bool, false, not, ◌&&◌, ◌||◌, ◌==◌, nat_lt, nat_le, if◌then◌else◌, List, [], length, map, Option, Some, None, slice_get, option_and_then}
use Rattle.std.specs.List.{find, range_with_len}
use Rattle.std.specs.Option.{option_map_or}
use Rattle.elf_definition.specs.declared.elf_header.ElfHeader.{ElfHeader}
use Rattle.elf_definition.specs.Check.{has_flag}
use Rattle.elf_definition.specs.Header.{has_magic, header_of, word}
use Rattle.elf_definition.specs.Sections.{has_sections, is_section_table_outside}
use Rattle.obj_reader.specs.declared.section.Section.{Section}
use Rattle.obj_reader.specs.declared.start.Start.{Start}

-- "ELF Header": ELFCLASS32, ELFDATA2MSB, and twice EV_CURRENT
abbrev pub is_identified : ElfHeader → Bool
is_identified header =
    header.ei_class == 1 && header.ei_data == 2
    && header.ei_version == 1 && header.e_version == 1

-- ET_REL and EM_MIPS
abbrev pub is_relocatable : ElfHeader → Bool
is_relocatable header = header.e_type == 1 && header.e_machine == 8

-- a big-endian 32-bit relocatable object for MIPS
abbrev pub is_mips_object : List ℕ → Bool
is_mips_object file =
    nat_le 52 (length file) && has_magic file
    && is_identified (header_of file) && is_relocatable (header_of file)

-- the section header table has entries of 40 bytes and lies in the file; e_shoff or e_shnum of 0
-- mean that there is none
abbrev pub is_table_sound : List ℕ → ElfHeader → Bool
is_table_sound file header =
    header.e_shentsize == 40 && not (has_sections header && is_section_table_outside file header)

-- the i-th section header, of 40 bytes
unfoldable pub section : Start → List ℕ → ℕ → Section
section start file i = let at = (header_of file).e_shoff + 40 * i in record {
  object = start.object;
  number = i;
  sh_type = word file (at + 4);
  sh_flags = word file (at + 8);
  sh_offset = word file (at + 16);
  sh_size = word file (at + 20);
  sh_link = word file (at + 24);
  sh_info = word file (at + 28);
  sh_addralign = word file (at + 32);
}

-- the section header table, if there is one
unfoldable pub sections_of : Start → List ℕ → List Section
sections_of start file =
    let header = header_of file in
    if has_sections header then map (section start file) (range_with_len 0 header.e_shnum) else []

-- "Sections", sh_type: SHT_PROGBITS, SHT_SYMTAB, SHT_STRTAB, SHT_RELA, SHT_NOBITS and SHT_REL
abbrev pub has_bytes : Section → Bool
has_bytes s = s.sh_type == 1

abbrev pub is_symbol_table : Section → Bool
is_symbol_table s = s.sh_type == 2

abbrev pub is_string_table : Section → Bool
is_string_table s = s.sh_type == 3

abbrev pub is_with_addends : Section → Bool
is_with_addends s = s.sh_type == 4

abbrev pub has_zeros : Section → Bool
has_zeros s = s.sh_type == 8

abbrev pub is_relocations : Section → Bool
is_relocations s = s.sh_type == 9

-- a section gets a place in the program: it has memory, SHF_ALLOC, and bytes or zeros
abbrev pub is_placed : Section → Bool
is_placed s = has_flag s.sh_flags 2 && (has_bytes s || has_zeros s)

-- SHF_EXECINSTR, of a section that is placed, and SHF_WRITE
abbrev pub is_code_object_section : Section → Bool
is_code_object_section s = is_placed s && has_flag s.sh_flags 4

abbrev pub is_variable : Section → Bool
is_variable s = has_flag s.sh_flags 1

-- the symbol table, the first one; sh_link is the number of its string table
abbrev pub symbol_table : List Section → Option Section
symbol_table sections = find is_symbol_table sections

abbrev pub only_strings : Section → Option Section
only_strings s = if is_string_table s then Some s else None

abbrev pub strings_of_table : List Section → Section → Option Section
strings_of_table sections table =
    option_and_then only_strings (slice_get sections table.sh_link)

abbrev pub string_table : List Section → Option Section
string_table sections = option_and_then (strings_of_table sections) (symbol_table sections)

-- a section of relocations, with or without addends, is for a section that is placed, which
-- sh_info numbers
abbrev pub is_for_placed : List Section → Section → Bool
is_for_placed sections s = option_map_or is_placed (slice_get sections s.sh_info) false

-- a section is the one of that number, if there is one
abbrev pub is_section : Option Section → Section → Bool
is_section table s = option_map_or (λ (t : Section). t.number == s.number) table false

-- the sections that are read: bytes of placed ones, the symbol table, its strings, and
-- relocations of placed ones
abbrev pub is_read : List Section → Section → Bool
is_read sections s =
    is_placed s && has_bytes s
    || is_section (symbol_table sections) s
    || is_section (string_table sections) s
    || is_relocations s && is_for_placed sections s

-- a section that is read runs past the end of a file of this length
abbrev pub is_section_outside : ℕ → List Section → Section → Bool
is_section_outside len sections s = is_read sections s && nat_lt len (s.sh_offset + s.sh_size)

-- an alignment is 0 or divides 4,096: it is a power of 2 up to that
abbrev pub is_alignment : ℕ → Bool
is_alignment n = n == 0 || 4096 % n == 0

abbrev pub is_misaligned : Section → Bool
is_misaligned s = is_placed s && not (is_alignment s.sh_addralign)

abbrev pub section_number : Section → ℕ
section_number s = s.number
