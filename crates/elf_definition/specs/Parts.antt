-- What a written file holds of each part: a segment by its address, its flags, its length in memory and its bytes in the file.
use Rattle.std.specs.Prelude.{ℕ, List}
use Rattle.elf_definition.specs.declared.part.Part.{Part}

pub record PartSegment : Type 0 where
  pub address : ℕ
  pub flags : ℕ
  pub memory : ℕ
  pub contents : List ℕ

abbrev pub part_segment : Part → PartSegment
part_segment part = record {
  address = part.vaddr;
  flags = part.flags;
  memory = part.mem;
  contents = part.bytes.items;
}
