-- One page more, and the pages of a class.
use Rattle.std.proofs.Common.{◌≡◌, ℕ, suc, ◌+◌, ◌-◌, ◌*◌, ◌<◌, true, false, List, [], ◌∷◌, ◌++◌, length, map, take, drop, slice_index, ap, sym, ◌∙◌, arith}
use Rattle.std.specs.Prelude.{min}
use Rattle.std.proofs.lemmas.List.{append-nil, take-map, drop-map, length-map}
use Rattle.std.proofs.lemmas.List.FromFn.{fill_by_all}
use Rattle.elf_definition.specs.Segments.{live}
use Rattle.elf_definition.specs.Start.{Source}
use Rattle.elf_definition.specs.Content.{is_filled_page, stored_word}
use Rattle.elf_image_parts.specs.Pages.{Page, page_words, filled_below}
use Rattle.method_splitter.specs.Shares.{share_at, shared}
use Rattle.translate_classes.specs.declared.page_data.PageData.{PageData}
use Rattle.translate_classes.specs.Pages.{page_of}
use Rattle.translate_program.specs.DataFiles.{class_pages, pages_of_class}

words-are : (s : Source) (page : ℕ) (words : List ℕ) → length words ≡ 1024
    → ((k : ℕ) → k < 1024 → slice_index words k ≡ stored_word s.file (live s.file) (4096 * page + 4 * k)) → words ≡ page_words s page
unfolding page_words
words-are s page words len each = fill_by_all (λ k. stored_word s.file (live s.file) (4096 * page + 4 * k)) words 1024 0 len each

pub page-more : (s : Source) (page : ℕ) (words : List ℕ) → true ≡ is_filled_page s.file (live s.file) page → length words ≡ 1024
    → ((k : ℕ) → k < 1024 → slice_index words k ≡ stored_word s.file (live s.file) (4096 * page + 4 * k))
    → filled_below s (page + 1) ≡ filled_below s page ++ record { number = page; words = words } ∷ []
unfolding filled_below
page-more s page words filled len each =
    let e : page + 1 ≡ suc page = omega arith in
    let is = sym filled in
    let own : Page → List Page = λ p. filled_below s page ++ p ∷ [] in
    ap (filled_below s) e
    ∙ rw is (ap own (ap (λ w. record { number = page; words = w }) (sym (words-are s page words len each))))

pub page-passed : (s : Source) (page : ℕ) → false ≡ is_filled_page s.file (live s.file) page → filled_below s (page + 1) ≡ filled_below s page
unfolding filled_below
page-passed s page zero =
    let e : page + 1 ≡ suc page = omega arith in
    let is = sym zero in
    ap (filled_below s) e ∙ rw is (append-nil (filled_below s page))

-- the pages of a class are those of its share
pub share-pages : (pages : List PageData) (k : ℕ)
    → map page_of (shared pages (share_at class_pages (length pages) k)) ≡ pages_of_class (map page_of pages) k
share-pages pages k =
    let first = class_pages * k in
    let count : ℕ → ℕ = λ things. min class_pages (things - first) in
    sym (take-map page_of (count (length pages)) (drop first pages))
    ∙ ap (take (count (length pages))) (sym (drop-map page_of first pages))
    ∙ ap (λ things. take (count things) (drop first (map page_of pages))) (sym (length-map pages page_of))
