use Rattle.std.proofs.Common.{◌≡◌, ◌+◌, ◌*◌, ◌<◌, length, slice_index_or}
use Rattle.std.specs.Prelude.{Some, ℕ}
use Rattle.delay_slots.specs.Units.{HasNoFloat}
use Rattle.elf_definition.specs.Start.{image_of}
use Rattle.elf_image_parts.proofs.words.range_words.Given as goal

abbrev pub invariant-loop-k : goal.invariant-loop-k
invariant-loop-k l =
    (length l.words.items ≡ l.k)
    × ((i : ℕ) → i < l.k → (image_of l.image).code (l.range.first + 4 * i) ≡ Some (slice_index_or l.words.items i 0))
    × HasNoFloat l.words.items
