use Rattle.std.proofs.Common.{◌≡◌, ℕ, length, take}
use Rattle.std.specs.List.{list_any}
use Rattle.elf_definition.specs.Content.{has_data}
use Rattle.elf_definition.specs.Pages.{heap_page}
use Rattle.elf_image.specs.PageTable.{marked}
use Rattle.elf_image.proofs.filled.filled_marks.Given as goal

abbrev pub invariant-loop-segment : goal.invariant-loop-segment
invariant-loop-segment l = record {
  len : length l.marks.items ≡ heap_page l.segments;
  marks : (page : ℕ) → marked l.marks.items page ≡ list_any (λ s. has_data l.file page s) (take l.segment-index l.segments);
}
