-- Where the parts of a written file stand: the header, the program header table, each segment's bytes at the next multiple of
-- 4, and the section header table, where there are sections, at the next multiple of 4.
use Rattle.std.specs.Prelude.{ℕ, ◌+◌, ◌-◌, ◌*◌, ◌/◌, ◌&&◌, Bool, nat_le, nat_lt, if◌then◌else◌, List, [], ◌∷◌, length}
use Rattle.elf_definition.specs.declared.part.Part.{Part}
use Rattle.elf_definition.specs.declared.parts.Parts.{Parts}
use Rattle.elf_definition.specs.declared.sec.Sec.{Sec}

-- the first multiple of 4 from a place on
abbrev pub aligned : ℕ → ℕ
aligned at = (at + 3) / 4 * 4

-- a header of 52 bytes, then a program header of 32 bytes for each segment
abbrev pub contents_place : List Part → ℕ
contents_place segments = 52 + 32 * length segments

-- the end of a segment's bytes, where what is before them ends at a place
abbrev pub part_end : ℕ → Part → ℕ
part_end at s = aligned at + length s.bytes.items

-- the end of the last of these segments' bytes, where what is before them ends at a place
abbrev pub contents_end : ℕ → List Part → ℕ
contents_end at [] = at
contents_end at (s ∷ segments) = contents_end (part_end at s) segments

-- whether an address is that of a byte of the segment's file part
abbrev pub holds : Part → ℕ → Bool
holds s address = nat_le s.vaddr address && nat_lt address (s.vaddr + length s.bytes.items)

-- the file offset of an address in the first of these segments whose file part holds it, else 0
abbrev pub file_offset : ℕ → List Part → ℕ → ℕ
file_offset at [] address = 0
file_offset at (s ∷ segments) address =
    if holds s address then aligned at + (address - s.vaddr)
    else file_offset (part_end at s) segments address

-- the number of section headers: none, or one for no section (index 0, SHN_UNDEF) and one for each section
abbrev pub header_count : List Sec → ℕ
header_count [] = 0
header_count (s ∷ sections) = 1 + length (s ∷ sections)

-- the place of the section header table, where what is before it ends at a place; 0 where there is none
abbrev pub table_place : ℕ → List Sec → ℕ
table_place at [] = 0
table_place at (s ∷ sections) = aligned at

-- the end of the section header table, where what is before it ends at a place
abbrev pub table_end : ℕ → List Sec → ℕ
table_end at [] = at
table_end at (s ∷ sections) = aligned at + 40 * header_count (s ∷ sections)

-- the end of the last segment's bytes
abbrev pub segments_end : Parts → ℕ
segments_end parts = contents_end (contents_place parts.segments.items) parts.segments.items

-- the length of the file, in bytes
abbrev pub file_length : Parts → ℕ
file_length parts = table_end (segments_end parts) parts.sections.items
