-- The bytes that a file's segments put into memory.
use Rattle.std.specs.Prelude.{ℕ, ◌+◌, ◌-◌, ◌*◌, Bool, not, ◌&&◌, ◌==◌, nat_lt, nat_le, List, slice_index, find, is_some}
use Rattle.std.specs.Option.{option_map_or}
use Rattle.elf_definition.specs.declared.segment.Segment.{Segment}
use Rattle.elf_definition.specs.Header.{order_of}
use Rattle.elf_definition.specs.Segments.{file_end}
use Rattle.elf_definition.specs.Check.{least_below}
use Rattle.elf_definition.specs.Pages.{is_segment_page}
use Rattle.run_definition.specs.Words.{word_of_bytes}
use Rattle.mips_definition.specs.Memory.{word_of_lanes}

-- an address is one of a segment's bytes in the file
abbrev pub is_in_file : ℕ → Segment → Bool
is_in_file at s = nat_le s.vaddr at && nat_lt at (file_end s)

-- the file's byte that a segment puts at an address
abbrev pub file_byte : List ℕ → ℕ → Segment → ℕ
file_byte file at s = slice_index file (s.offset + (at - s.vaddr))

-- the byte at an address of the segments: the file's where one's bytes in the file reach, else 0
unfoldable pub stored_byte : List ℕ → List Segment → ℕ → ℕ
stored_byte file segments at = option_map_or (file_byte file at) (find (is_in_file at) segments) 0

-- the word at an address as a page keeps it: its lanes are the bytes, lane 0 (the most significant byte) the one of the lowest
-- address, whatever the file's order is
unfoldable pub stored_word : List ℕ → List Segment → ℕ → ℕ
stored_word file segments at = let byte = stored_byte file segments in
    word_of_bytes (byte at) (byte (at + 1)) (byte (at + 2)) (byte (at + 3))

-- the instruction word at an address of the code, which has the file's order
unfoldable pub stored_code_word : List ℕ → List Segment → ℕ → ℕ
stored_code_word file segments at = word_of_lanes (order_of file) (stored_word file segments at)

-- a page of the segments that holds a byte that is not 0
unfoldable pub is_filled_page : List ℕ → List Segment → ℕ → Bool
is_filled_page file segments page =
    is_segment_page segments page
    && is_some (least_below (λ k. not (stored_byte file segments (4096 * page + k) == 0)) 4096)

-- a page holds a byte of a segment's bytes in the file that is not 0
unfoldable pub has_data : List ℕ → ℕ → Segment → Bool
has_data file page s =
    is_some (least_below (λ k. is_in_file (4096 * page + k) s
    && not (file_byte file (4096 * page + k) s == 0)) 4096)
