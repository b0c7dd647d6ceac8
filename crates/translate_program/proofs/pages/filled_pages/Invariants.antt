use Rattle.std.proofs.Common.{◌≡◌, ◌≤◌, All, length, map}
use Rattle.elf_image_parts.specs.Pages.{filled_below}
use Rattle.translate_classes.specs.declared.page_data.PageData.{PageData}
use Rattle.translate_classes.specs.Pages.{page_of}
use Rattle.translate_program.proofs.pages.filled_pages.Given as goal

abbrev pub invariant-loop-page : goal.invariant-loop-page
invariant-loop-page l = record {
  pages : map page_of l.pages.items ≡ filled_below l.image l.page;
  words : All (λ (p : PageData). length p.words.now ≤ 1024) l.pages.items;
}
