use Rattle.std.proofs.Common.{◌≡◌, map, filter, take}
use Rattle.elf_definition.specs.Area.{segment_range}
use Rattle.elf_definition.specs.Segments.{is_executable}
use Rattle.elf_reader.proofs.code_area.segment_ranges.Given as goal

abbrev pub invariant-loop-s : goal.invariant-loop-s
invariant-loop-s l = l.ranges.items ≡ map segment_range (filter is_executable (take l.s-index l.segments))
