use Rattle.std.proofs.Common.{◌≤◌, ◌++◌, ◌∷◌, [], All, length, map, ap, sym, ◌∙◌, subst, arith}
use Rattle.std.proofs.lemmas.List.{map_push}
use Rattle.std.proofs.lemmas.List.Elements.{All-push}
use Rattle.elf_image_parts.specs.Pages.{Page}
use Rattle.translate_classes.specs.declared.page_data.PageData.{PageData}
use Rattle.translate_classes.specs.Pages.{page_of}
use Rattle.translate_program.proofs.DataFiles.PageLemmas.{page-more, page-passed}
use Rattle.translate_program.proofs.pages.add_page.Goals as goal

pub returns-in_ok-push-in-Some-clause-pages : goal.returns-in_ok-push-in-Some-clause-pages
returns-in_ok-push-in-Some-clause-pages c =
    let there = c.in-Some.ensures in
    let words = c.in-Some.words.now in
    let page = c.args.page in
    let own : Page = record { number = page; words = words } in
    ap (map page_of) c.in_ok-push-in-Some.ensures.items
    ∙ map_push page_of c.args.pages.now.items (record { page = page; words = c.in-Some.words })
    ∙ ap (λ l. l ++ own ∷ []) c.requires.pages
    ∙ sym (page-more c.args.image.now page words there.filled there.len there.words)

pub returns-in_ok-push-in-Some-clause-words : goal.returns-in_ok-push-in-Some-clause-words
returns-in_ok-push-in-Some-clause-words c =
    subst (All (λ (p : PageData). length p.words.now ≤ 1024)) (sym c.in_ok-push-in-Some.ensures.items)
    (All-push (λ (p : PageData). length p.words.now ≤ 1024) c.args.pages.now.items (record { page = c.args.page; words = c.in-Some.words })
    c.requires.words (omega (arith, c.in-Some.ensures.len)))

pub returns-in-None-clause-pages : goal.returns-in-None-clause-pages
returns-in-None-clause-pages c = c.requires.pages ∙ sym (page-passed c.args.image.now c.args.page c.in-None.ensures.filled)
