use Rattle.std.proofs.Common.{◌≡◌, ℕ, ◌&&◌, length, take}
use Rattle.std.specs.List.{list_any}
use Rattle.elf_definition.specs.Segments.{is_writable}
use Rattle.elf_definition.specs.Pages.{is_on_page, heap_page}
use Rattle.elf_image.specs.PageTable.{marked}
use Rattle.elf_image.proofs.page_marks.data_marks.Given as goal

abbrev pub invariant-loop-segment : goal.invariant-loop-segment
invariant-loop-segment l = record {
  len : length l.marks.items ≡ heap_page l.segments;
  marks : (page : ℕ) → marked l.marks.items page ≡ list_any (λ s. is_writable s && is_on_page page s) (take l.segment-index l.segments);
}
