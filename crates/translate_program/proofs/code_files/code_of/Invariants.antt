use Rattle.std.proofs.Common.{◌≡◌, map}
use Rattle.elf_definition.specs.Start.{image_of}
use Rattle.translate_program.specs.Places.{places_of}
use Rattle.translate_program.specs.Ranges.{range_of}
use Rattle.translate_program.specs.Adding.{HasFew, HasPlaces}
use Rattle.translate_program.proofs.code_files.code_of.Given as goal

abbrev pub invariant-loop-range : goal.invariant-loop-range
invariant-loop-range l = record {
  places : HasPlaces l.metered (image_of l.fn.ranges.image.value).code l.name l.method_bytes (places_of (map range_of l.yielded)) l.code;
  few : HasFew l.code;
  told : l.code.told ≡ l.fn.told;
}
