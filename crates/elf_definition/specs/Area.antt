-- The code area: the addresses that hold instructions.
use Rattle.std.specs.Prelude.{ℕ, ◌+◌, ◌-◌, ◌*◌, ◌/◌, ◌^◌, Bool, ◌&&◌, ◌==◌, nat_lt, nat_le, if◌then◌else◌, List, [], ◌∷◌, map, filter, Option}
use Rattle.std.specs.List.{list_any, list_all}
use Rattle.elf_definition.specs.declared.elf_fault.ElfFault.{ElfFault}
use Rattle.elf_definition.specs.declared.segment.Segment.{Segment}
use Rattle.elf_definition.specs.declared.section_header.SectionHeader.{SectionHeader}
use Rattle.elf_definition.specs.declared.range.Range.{Range}
use Rattle.elf_definition.specs.Check.{fails, fails_at, first_fault, least_below, meet}
use Rattle.elf_definition.specs.Header.{header_of}
use Rattle.elf_definition.specs.Segments.{live, segment_end, file_end, is_executable, is_writable}
use Rattle.elf_definition.specs.Sections.{has_sections, section_headers, is_code}

-- the words of a code section, its size rounded down
abbrev pub section_range : SectionHeader → Range
section_range s = record { first = s.sh_addr; words = s.sh_size / 4 }

-- the words of a segment's bytes in the file, from its start rounded up to its end rounded down
abbrev pub segment_range : Segment → Range
segment_range s = record { first = (s.vaddr + 3) / 4 * 4; words = file_end s / 4 - (s.vaddr + 3) / 4 }

-- the words of each code section, or, without sections, of each executable segment
abbrev pub ranges_of : Bool → List SectionHeader → List Segment → List Range
ranges_of with_sections sections segments =
    if with_sections then map section_range (filter is_code sections)
    else map segment_range (filter is_executable segments)

-- the words of the code area, range by range
unfoldable pub code_ranges : List ℕ → List Range
code_ranges file = ranges_of (has_sections (header_of file)) (section_headers file) (live file)

-- the first address behind a range
abbrev pub range_end : Range → ℕ
range_end r = r.first + 4 * r.words

-- an address is within a range
abbrev pub has_address : ℕ → Range → Bool
has_address at r = nat_le r.first at && nat_lt at (range_end r)

-- an address is in the code area
unfoldable pub area : List ℕ → ℕ → Bool
area file at = list_any (has_address at) (code_ranges file)

-- an address lies in the bytes in the file of an executable segment
abbrev pub is_in_text : ℕ → Segment → Bool
is_in_text at s = is_executable s && nat_le s.vaddr at && nat_lt at (file_end s)

-- a page of 4,096 bytes holds a byte of a range, and a byte of a writable segment
abbrev pub range_is_on_page : ℕ → Range → Bool
range_is_on_page page r = meet r.first (range_end r) (4096 * page) (4096 * page + 4096)

abbrev pub data_is_on_page : ℕ → Segment → Bool
data_is_on_page page s =
    is_writable s && meet s.vaddr (segment_end s) (4096 * page) (4096 * page + 4096)

-- a page holds a byte of the ranges and a byte of a writable segment
unfoldable pub is_shared_page : List Range → List Segment → ℕ → Bool
is_shared_page ranges segments page =
    list_any (range_is_on_page page) ranges && list_any (data_is_on_page page) segments

-- the number of pages that addresses of 32 bits have
abbrev pub address_pages : ℕ
address_pages = 2 ^ 20

-- the checks of the code area, beside the live segments: it is not empty, and no page of it can be written
unfoldable pub area_fault : List Range → List Segment → Option ElfFault
area_fault ranges segments =
    first_fault
    (fails 21 (list_all (λ r. r.words == 0) ranges)
    ∷ fails_at 22 (least_below (is_shared_page ranges segments) address_pages)
    ∷ [])
