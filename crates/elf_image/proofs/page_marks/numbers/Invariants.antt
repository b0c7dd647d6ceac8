use Rattle.std.proofs.Common.{◌≡◌, ℕ, ◌<◌, ◌≤◌, length, get_or}
use Rattle.elf_definition.specs.Pages.{count_below}
use Rattle.elf_image.specs.PageTable.{marked, number_of}
use Rattle.elf_image.proofs.page_marks.numbers.Given as goal

abbrev pub invariant-loop-page : goal.invariant-loop-page
invariant-loop-page l = record {
  size : length l.numbers.items ≡ l.page;
  value : l.count ≡ count_below (marked l.marks) l.page;
  bound : l.count ≤ l.page;
  numbers : (p : ℕ) → p < l.page → get_or l.numbers.items p 0 ≡ number_of (marked l.marks) p;
}
