use Rattle.std.proofs.Common.{◌≡◌, ℕ, ◌&&◌, ◌||◌, nat_lt, length}
use Rattle.elf_definition.specs.Pages.{is_on_page}
use Rattle.elf_image.specs.PageTable.{marked}
use Rattle.elf_image.proofs.page_marks.mark_segment.Given as goal

abbrev pub invariant-loop-page : goal.invariant-loop-page
invariant-loop-page l = record {
  len : length l.marks ≡ length l.initial.marks;
  marks : (p : ℕ) → marked l.marks p ≡ (marked l.initial.marks p || (is_on_page p l.segment && nat_lt p l.page));
}
