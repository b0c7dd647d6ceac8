use Rattle.std.proofs.Common.{◌≤◌, All, length, map, ap, sym, subst}
use Rattle.std.proofs.lemmas.List.Elements.{All-nil}
use Rattle.elf_image_parts.specs.Pages.{filled_below}
use Rattle.translate_classes.specs.declared.page_data.PageData.{PageData}
use Rattle.translate_classes.specs.Pages.{page_of}
use Rattle.translate_program.proofs.pages.filled_pages.Goals as goal

pub loop-page-init : goal.loop-page-init
unfolding filled_below
loop-page-init c = record {
  pages = ap (map page_of) c.new-pages.ensures.items;
  words =
      subst (All (λ (p : PageData). length p.words.now ≤ 1024)) (sym c.new-pages.ensures.items)
      (All-nil (λ (p : PageData). length p.words.now ≤ 1024));
}
