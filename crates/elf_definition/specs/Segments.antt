-- System V ABI, "Program Header"
use Rattle.std.specs.Prelude.{◌≡◌, false, ℕ, ◌+◌, ◌*◌, Bool, ◌&&◌, ◌||◌, ◌==◌, nat_lt, List, [], ◌∷◌, map, filter, position, Option, None, option_map}
use Rattle.std.specs.Option.{option_or}
use Rattle.std.specs.List.{range_with_len}
use Rattle.elf_definition.specs.declared.elf_fault.ElfFault.{ElfFault}
use Rattle.elf_definition.specs.declared.segment.Segment.{Segment}
use Rattle.elf_definition.specs.declared.program_header.ProgramHeader.{ProgramHeader}
use Rattle.elf_definition.specs.Check.{fails_at, first_fault, has_flag, meet}
use Rattle.elf_definition.specs.Header.{header_of, word}

-- the i-th program header, of 32 bytes
unfoldable pub program_header : List ℕ → ℕ → ProgramHeader
program_header file i = let at = (header_of file).e_phoff + 32 * i in record {
  p_type = word file at;
  segment = record {
    offset = word file (at + 4);
    vaddr = word file (at + 8);
    filesz = word file (at + 16);
    memsz = word file (at + 20);
    flags = word file (at + 24);
  };
}

-- the program header table
unfoldable pub program_headers : List ℕ → List ProgramHeader
program_headers file = map (program_header file) (range_with_len 0 (header_of file).e_phnum)

-- PT_LOAD: a segment
abbrev pub is_segment : ProgramHeader → Bool
is_segment h = h.p_type == 1

-- a segment is live where it has bytes in memory
abbrev pub is_live : ProgramHeader → Bool
is_live h = is_segment h && nat_lt 0 h.segment.memsz

-- the live segments, in the order of the table
unfoldable pub live : List ℕ → List Segment
live file = map (λ h. h.segment) (filter is_live (program_headers file))

-- the first address behind a segment, and behind its bytes in the file
abbrev pub segment_end : Segment → ℕ
segment_end s = s.vaddr + s.memsz

abbrev pub file_end : Segment → ℕ
file_end s = s.vaddr + s.filesz

-- PF_X and PF_W
abbrev pub is_executable : Segment → Bool
is_executable s = has_flag s.flags 1

abbrev pub is_writable : Segment → Bool
is_writable s = has_flag s.flags 2

-- PT_DYNAMIC or PT_INTERP
abbrev pub is_dynamic : ProgramHeader → Bool
is_dynamic h = h.p_type == 2 || h.p_type == 3

-- a segment's bytes run past the end of a file of this length
abbrev pub is_outside : ℕ → ProgramHeader → Bool
is_outside len h = is_segment h && nat_lt 0 h.segment.filesz
    && nat_lt len (h.segment.offset + h.segment.filesz)

-- a segment has more bytes in the file than in memory
abbrev pub is_oversized : ProgramHeader → Bool
is_oversized h = is_segment h && nat_lt h.segment.memsz h.segment.filesz

-- a live segment ends above the memory that a program may have
abbrev pub is_too_high : ProgramHeader → Bool
is_too_high h = is_live h && nat_lt 0x7F00_0000 (segment_end h.segment)

-- a live segment is both writable and executable
abbrev pub is_writable_text : ProgramHeader → Bool
is_writable_text h = is_live h && is_executable h.segment && is_writable h.segment

-- two live segments share an address
abbrev pub overlap : ProgramHeader → ProgramHeader → Bool
overlap h g =
    is_live h && is_live g
    && meet h.segment.vaddr (segment_end h.segment) g.segment.vaddr (segment_end g.segment)

-- two segments share no address
abbrev pub IsApart : Segment → Segment → Type 0
IsApart s t = meet s.vaddr (segment_end s) t.vaddr (segment_end t) ≡ false

-- the first header, counted from i, that overlaps a later one, and the first such later one
unfoldable pub overlap_from : ℕ → List ProgramHeader → Option ElfFault
overlap_from i [] = None
overlap_from i (h ∷ later) =
    option_or
    (option_map (λ k. record { kind = 15; i = i; j = i + 1 + k }) (position (overlap h) later))
    (overlap_from (i + 1) later)

-- the checks of the program headers of a file of this length
unfoldable pub segment_fault : ℕ → List ProgramHeader → Option ElfFault
segment_fault len headers =
    first_fault
    (fails_at 11 (position is_dynamic headers)
    ∷ fails_at 12 (position (is_outside len) headers)
    ∷ fails_at 13 (position is_oversized headers)
    ∷ fails_at 14 (position is_too_high headers)
    ∷ overlap_from 0 headers
    ∷ fails_at 16 (position is_writable_text headers)
    ∷ [])
