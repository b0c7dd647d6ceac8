use Rattle.std.proofs.Common.{map, take}
use Rattle.elf_definition.specs.Start.{image_of}
use Rattle.translate_program.specs.Places.{places_of}
use Rattle.translate_program.specs.Ranges.{range_of}
use Rattle.translate_program.specs.Counting.{CountsPlaces, HasFewMethods}
use Rattle.translate_program.proofs.counting.code_counts.Given as goal

abbrev pub invariant-loop-range : goal.invariant-loop-range
invariant-loop-range l = record {
  places : CountsPlaces l.metered (image_of l.ranges.image.value).code l.method_bytes (places_of (map range_of (take l.range-index l.items))) l.counts;
  few : HasFewMethods l.counts;
}
