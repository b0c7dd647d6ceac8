-- What a file holds of its segments.
use Rattle.std.specs.Prelude.{ℕ, ◌+◌, nat_lt, List, map, filter, slice_range}
use Rattle.elf_definition.specs.declared.segment.Segment.{Segment}
use Rattle.elf_definition.specs.Parts.{PartSegment as Content}

-- a segment's address, flags and length in memory, and its bytes in the file
abbrev pub content_in : List ℕ → Segment → Content
content_in file s = record {
  address = s.vaddr;
  flags = s.flags;
  memory = s.memsz;
  contents = slice_range file s.offset (s.offset + s.filesz);
}

abbrev pub contents_in : List ℕ → List Segment → List Content
contents_in file segments = map (content_in file) segments

-- the segments that have memory
abbrev pub with_memory : List Content → List Content
with_memory segments = filter (λ (s : Content). nat_lt 0 s.memory) segments
