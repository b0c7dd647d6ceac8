use Rattle.std.proofs.Common.{◌≡◌, ◌≤◌}
use Rattle.elf_definition.specs.Pages.{count_below}
use Rattle.elf_image.specs.PageTable.{marked}
use Rattle.elf_image.proofs.page_marks.count_marks.Given as goal

abbrev pub invariant-loop-page : goal.invariant-loop-page
invariant-loop-page l = record { value : l.count ≡ count_below (marked l.marks) l.page; bound : l.count ≤ l.page }
