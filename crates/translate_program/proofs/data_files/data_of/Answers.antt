use Rattle.std.proofs.Common.{◌≡◌, ◌≤◌, All, length, map, drop, ap, sym, ◌∙◌, arith, subst}
use Rattle.std.proofs.lemmas.List.{length-map, length-take}
use Rattle.std.proofs.lemmas.List.Elements.{All-take, All-drop}
use Rattle.method_splitter.specs.Shares.{share_at, share_count, shared}
use Rattle.translate_classes.specs.declared.page_data.PageData.{PageData}
use Rattle.translate_classes.specs.Pages.{page_of}
use Rattle.translate_program.specs.DataFiles.{class_pages, class_count, filled_pages, pages_of_class, HasFiles}
use Rattle.translate_program.proofs.Counts.PageLemmas.{classes-few}
use Rattle.translate_program.proofs.DataFiles.PageLemmas.{share-pages}
use Rattle.translate_program.proofs.DataFiles.FileLemmas.{no-files, file-more}
use Rattle.translate_program.proofs.data_files.data_of.Goals as goal

pub loop-k-init : goal.loop-k-init
loop-k-init c =
    no-files c.args.name.now c.args.code_classes c.args.methods (filled_pages c.args.image.now) _ c.new.ensures.items c.new-2.ensures.items

pub add_class-requires-clause-number : goal.add_class-requires-clause-number
add_class-requires-clause-number c =
    let few = classes-few c.args.image.now c.in_ok-pages.pages.items c.in_ok-pages.ensures.pages in
    let count : c.len.result ≡ length c.in_ok-pages.pages.items = omega (arith, c.len.ensures) in
    omega (arith, few, ap (share_count class_pages) count, c.share_count-k-end.ensures, c.loop-k-test.true)

pub add_class-requires-clause-pages : goal.add_class-requires-clause-pages
add_class-requires-clause-pages c =
    let share = c.share_at.result in
    let rest = drop share.first c.as_slice.result.now in
    omega (arith, ap length c.shared-own.ensures, length-take share.count rest, c.share_at.ensures.few)

pub add_class-requires-clause-words : goal.add_class-requires-clause-words
add_class-requires-clause-words c =
    let Few = λ (p : PageData). length p.words.now ≤ 1024 in
    let share = c.share_at.result in
    subst (All Few) (sym (c.shared-own.ensures ∙ ap (λ l. shared l share) c.as_slice.ensures.value))
    (All-take Few share.count (drop share.first c.in_ok-pages.pages.items) (All-drop Few share.first c.in_ok-pages.pages.items c.in_ok-pages.ensures.words))

pub loop-k-preserved : goal.loop-k-preserved
loop-k-preserved c =
    let pages = c.in_ok-pages.pages.items in
    let filled = filled_pages c.args.image.now in
    let k = c.loop-k.k in
    let own = c.shared-own.result.now in
    let count : c.len-in-loop-k.result ≡ length pages = omega (arith, c.len-in-loop-k.ensures) in
    let share = c.share_at.ensures.value ∙ ap (λ n. share_at class_pages n k) count in
    let elements : own ≡ shared pages (share_at class_pages (length pages) k) =
    c.shared-own.ensures ∙ ap (λ l. shared l c.share_at.result) c.as_slice.ensures.value ∙ ap (shared pages) share in
    let own_is : map page_of own ≡ pages_of_class filled k =
    ap (map page_of) elements ∙ share-pages pages k ∙ ap (λ p. pages_of_class p k) c.in_ok-pages.ensures.pages in
    file-more c.args.name.now c.args.code_classes c.args.methods k filled (map page_of own) c.loop-k.made c.add_class.new.made
    c.in_ok-add_class.ensures own_is c.loop-k.invariant

pub returns : goal.returns
returns c =
    let pages = c.in_ok-pages.pages.items in
    let filled = filled_pages c.args.image.now in
    let count : c.len.result ≡ length pages = omega (arith, c.len.ensures) in
    let same : length pages ≡ length filled = sym (length-map pages page_of) ∙ ap length c.in_ok-pages.ensures.pages in
    let end : c.loop-k.k ≡ c.share_count-k-end.result = omega (arith, c.loop-k.auto.k-end, c.loop-k-test.false) in
    let all : c.loop-k.k ≡ class_count filled = end ∙ c.share_count-k-end.ensures ∙ ap (share_count class_pages) (count ∙ same) in
    subst (λ n. HasFiles c.args.name.now c.args.code_classes c.args.methods filled n c.loop-k.made) all c.loop-k.invariant
