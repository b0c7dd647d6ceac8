-- System V ABI, "Object Files": the bytes of a written file.
use Rattle.std.specs.Prelude.{ℕ, ◌-◌, List, [], ◌∷◌, ◌++◌, length, replicate}
use Rattle.elf_definition.specs.declared.part.Part.{Part}
use Rattle.elf_definition.specs.declared.parts.Parts.{Parts}
use Rattle.elf_definition.specs.declared.sec.Sec.{Sec}
use Rattle.elf_definition.specs.FileFields.{halves, words}
use Rattle.elf_definition.specs.FilePlaces.{aligned, contents_place, part_end, file_offset, header_count, table_place, segments_end}

-- "ELF Identification": 7F, E, L, F, ELFCLASS32, ELFDATA2MSB, EV_CURRENT, and nine bytes of padding
abbrev pub identification : List ℕ
identification = 0x7F ∷ 0x45 ∷ 0x4C ∷ 0x46 ∷ 1 ∷ 2 ∷ 1 ∷ 0 ∷ 0 ∷ 0 ∷ 0 ∷ 0 ∷ 0 ∷ 0 ∷ 0 ∷ 0 ∷ []

-- "ELF Header": e_ident; e_type (ET_EXEC), e_machine (EM_MIPS); e_version, e_entry, e_phoff, e_shoff, e_flags; e_ehsize,
-- e_phentsize, e_phnum, e_shentsize, e_shnum, e_shstrndx
abbrev pub elf_header : ℕ → ℕ → ℕ → ℕ → List ℕ
elf_header entry table segments headers =
    identification ++ halves (2 ∷ 8 ∷ []) ++ words (1 ∷ entry ∷ 52 ∷ table ∷ 0 ∷ [])
    ++ halves (52 ∷ 32 ∷ segments ∷ 40 ∷ headers ∷ 0 ∷ [])

-- "Program Header": p_type (PT_LOAD), p_offset, p_vaddr, p_paddr, p_filesz, p_memsz, p_flags, p_align
abbrev pub program_header_bytes : ℕ → Part → List ℕ
program_header_bytes offset s =
    words (1 ∷ offset ∷ s.vaddr ∷ s.vaddr ∷ length s.bytes.items ∷ s.mem ∷ s.flags ∷ 4 ∷ [])

-- the program headers of segments whose bytes stand from a place on
abbrev pub program_header_table : ℕ → List Part → List ℕ
program_header_table at [] = []
program_header_table at (s ∷ segments) = program_header_bytes (aligned at) s
    ++ program_header_table (part_end at s) segments

-- zeros up to the next multiple of 4
abbrev pub padding : ℕ → List ℕ
padding at = replicate (aligned at - at) 0

-- the bytes of the segments from a place on, each part's at the next multiple of 4
abbrev pub contents : ℕ → List Part → List ℕ
contents at [] = []
contents at (s ∷ segments) = padding at ++ s.bytes.items ++ contents (part_end at s) segments

-- "Section Header": sh_name, sh_type, sh_flags, sh_addr, sh_offset, sh_size, sh_link, sh_info, sh_addralign, sh_entsize
abbrev pub section_header_bytes : ℕ → Sec → List ℕ
section_header_bytes offset s =
    words (0 ∷ s.kind ∷ s.flags ∷ s.addr ∷ offset ∷ s.size ∷ 0 ∷ 0 ∷ 4 ∷ 0 ∷ [])

-- the headers of the sections of a file with these segments, whose bytes stand from a place on
abbrev pub section_header_table : ℕ → List Part → List Sec → List ℕ
section_header_table at segments [] = []
section_header_table at segments (s ∷ sections) =
    section_header_bytes (file_offset at segments s.addr) s ++ section_header_table at segments sections

-- the section header table behind a place: zeros up to the next multiple of 4, a header of zeros, the sections' headers
abbrev pub section_table : ℕ → List Part → List Sec → List ℕ
section_table at segments [] = []
section_table at segments (s ∷ sections) =
    padding at ++ replicate 40 0
    ++ section_header_table (contents_place segments) segments (s ∷ sections)

-- the file
abbrev pub elf_file : Parts → List ℕ
elf_file parts =
    elf_header parts.entry (table_place (segments_end parts) parts.sections.items)
    (length parts.segments.items)
    (header_count parts.sections.items)
    ++ program_header_table (contents_place parts.segments.items) parts.segments.items
    ++ contents (contents_place parts.segments.items) parts.segments.items
    ++ section_table (segments_end parts) parts.segments.items parts.sections.items
