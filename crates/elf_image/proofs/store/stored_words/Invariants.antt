use Rattle.std.proofs.Common.{◌≡◌, ℕ, ◌*◌, ◌/◌, ◌-◌, drop, length, get_or}
use Rattle.elf_definition.specs.Content.{stored_byte}
use Rattle.elf_image.specs.PageTable.{table_byte}
use Rattle.elf_image.proofs.store.stored_words.Given as goal

abbrev pub invariant-loop-done : goal.invariant-loop-done
invariant-loop-done l = record {
  len : length l.words.items ≡ 1024 * l.count;
  bytes : (at : ℕ) → (get_or l.index (at / 4096) 0 ≡ 0 → ⊥) → table_byte l.index l.words.items at ≡ stored_byte l.file (drop (l.all - l.done) l.segments) at;
}
