use Rattle.std.proofs.Common.{◌≡◌, ℕ, ◌/◌, ◌&&◌, nat_lt, cond, length, get_or}
use Rattle.elf_definition.specs.Content.{is_in_file, file_byte}
use Rattle.elf_image.specs.PageTable.{table_byte}
use Rattle.elf_image.proofs.store.put_segment.Given as goal

abbrev pub invariant-loop-page : goal.invariant-loop-page
invariant-loop-page l = record {
  len : length l.words ≡ length l.initial.words;
  bytes : (at : ℕ) → (get_or l.index (at / 4096) 0 ≡ 0 → ⊥) → table_byte l.index l.words at
      ≡ cond (is_in_file at l.segment && nat_lt (at / 4096) l.page) (file_byte l.file at l.segment) (table_byte l.index l.initial.words at);
}
