use Rattle.std.proofs.Common.{◌≡◌, ◌+◌, ◌*◌, None}
use Rattle.elf_definition.specs.Check.{least_below}
use Rattle.elf_definition.specs.Content.{stored_code_word}
use Rattle.mips_definition.specs.Table.{is_float}
use Rattle.elf_image.proofs.floats.float_word.Given as goal

abbrev pub invariant-loop-k : goal.invariant-loop-k
invariant-loop-k l = least_below (λ k. is_float (stored_code_word l.table.file.bytes l.table.segments.value.items (l.range.first + 4 * k))) l.k ≡ None
