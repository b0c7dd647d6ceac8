use Rattle.std.proofs.Common.{◌≡◌, map, take, All}
use Rattle.elf_definition.specs.Start.{image_of}
use Rattle.translate_program.specs.Ranges.{IsRangeOf, range_of}
use Rattle.translate_program.proofs.ranges.ranges_of.Given as goal

abbrev pub invariant-loop-range : goal.invariant-loop-range
invariant-loop-range l = record {
  ranges : map range_of l.items.items ≡ take l.range-index l.range-items;
  each : All (IsRangeOf (image_of l.image).code) l.items.items;
}
