-- What a written file is read as.
use Rattle.std.specs.Prelude.{◌≡◌, ℕ, ◌+◌, ◌^◌, ◌<◌, slice_index, nat_lt, if◌then◌else◌, List, [], ◌∷◌, length}
use Rattle.elf_definition.specs.declared.segment.Segment.{Segment}
use Rattle.elf_definition.specs.declared.part.Part.{Part}
use Rattle.elf_definition.specs.FilePlaces.{aligned, part_end}

-- the segment of a part whose bytes stand at an offset
abbrev pub segment_of : ℕ → Part → Segment
segment_of offset s = record {
  offset = offset;
  vaddr = s.vaddr;
  filesz = length s.bytes.items;
  memsz = s.mem;
  flags = s.flags;
}

-- the segments of the parts with memory, where what is before the parts' bytes ends at a place
unfoldable pub part_segments : ℕ → List Part → List Segment
part_segments at [] = []
part_segments at (s ∷ parts) =
    if nat_lt 0 s.mem then segment_of (aligned at) s ∷ part_segments (part_end at s) parts
    else part_segments (part_end at s) parts

-- a file holds the bytes of each part at its place, where what is before the parts' bytes ends at a place
unfoldable pub HoldsParts : List ℕ → ℕ → List Part → Type 0
HoldsParts file at [] = Unit {0}
HoldsParts file at (s ∷ parts) =
    ((k : ℕ) → k < length s.bytes.items → slice_index file (aligned at + k)
    ≡ slice_index s.bytes.items k) × HoldsParts file (part_end at s) parts

-- the fields of a part have 32 bits
abbrev pub HasWords : Part → Type 0
HasWords s = (s.vaddr < 2 ^ 32) × (s.mem < 2 ^ 32) × (s.flags < 2 ^ 32)
