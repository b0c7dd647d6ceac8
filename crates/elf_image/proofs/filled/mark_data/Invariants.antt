use Rattle.std.proofs.Common.{◌≡◌, ℕ, ◌&&◌, ◌||◌, nat_lt, length}
use Rattle.elf_definition.specs.Content.{has_data}
use Rattle.elf_image.specs.PageTable.{marked}
use Rattle.elf_image.proofs.filled.mark_data.Given as goal

abbrev pub invariant-loop-page : goal.invariant-loop-page
invariant-loop-page l = record {
  len : length l.marks ≡ length l.initial.marks;
  marks : (p : ℕ) → marked l.marks p ≡ (marked l.initial.marks p || (has_data l.file p l.segment && nat_lt p l.page));
}
