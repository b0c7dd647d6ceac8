use Rattle.std.proofs.Common.{◌≡◌, drop}
use Rattle.elf_definition.specs.ImageFault.{first_float}
use Rattle.elf_image.proofs.floats.first_float.Given as goal

abbrev pub invariant-loop-range : goal.invariant-loop-range
invariant-loop-range l = first_float l.table.file.bytes l.table.segments.value.items l.code ≡ first_float l.table.file.bytes l.table.segments.value.items (drop l.range-index l.code)
