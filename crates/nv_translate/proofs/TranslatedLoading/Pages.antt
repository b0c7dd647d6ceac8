-- The pages that classes of data fill.
use Rattle.std.proofs.Common.{◌≡◌, ℕ, zero, suc, ◌-◌, ◌*◌, ◌<◌, ◌≤◌, Bool, true, false, if◌then◌else◌, List, [], ◌∷◌, length, map, take, drop, refl, ap, sym, subst, ◌∙◌, arith}
use Rattle.std.specs.Prelude.{min}
use Rattle.std.specs.List.{All, AllZip}
use Rattle.std.proofs.lemmas.Grind.{div_ceil_times}
use Rattle.std.proofs.lemmas.List.{take-map, drop-map, length-map, length-take, length-drop, length-append}
use Rattle.std.proofs.lemmas.List.Elements.{All-nil, All-cons, All-head, All-tail, All-append, All-take, All-drop}
use Rattle.elf_definition.specs.Segments.{live}
use Rattle.elf_definition.specs.Start.{Source}
use Rattle.elf_definition.specs.Content.{is_filled_page}
use Rattle.elf_definition.specs.Pages.{count_below}
use Rattle.elf_image_parts.specs.Runs.{pages_of}
use Rattle.elf_image_parts.specs.Pages.{Page, page_words, page_at, filled_below}
use Rattle.jvm_definition.specs.Program.{Program}
use Rattle.emit_layout.specs.FieldNumbers.{page_count}
use Rattle.method_splitter.specs.Shares.{share_at, shared}
use Rattle.emit_loading.specs.declared.page_slot.PageSlot.{PageSlot}
use Rattle.data_strings.specs.Texts.{page_text}
use Rattle.emit_program_laws.specs.LoadingCodeLaws.Loaded.{HasPage}
use Rattle.translate_program.specs.DataFiles.{class_pages, class_count, filled_pages, pages_of_class}
use Rattle.nv_translate.specs.Linked.{SpellsPage}

abbrev pub numbers_of_pages : List Page → List ℕ
numbers_of_pages pages = map (λ (p : Page). p.number) pages

abbrev pub pages_of_slots : List PageSlot → List ℕ
pages_of_slots slots = map (λ (t : PageSlot). t.page) slots

-- ---- pages that can be read, counted

abbrev page_if : Bool → ℕ → Bool → List (ℕ × Bool)
page_if b page w = if b then (page, w) ∷ [] else []

one-more : (b w : Bool) (page : ℕ) → length (page_if b page w) ≡ (if b then 1 else 0)
one-more true w page = refl
one-more false w page = refl

pub pages-counted : (readable writable : ℕ → Bool) (n : ℕ) → length (pages_of readable writable n) ≡ count_below readable n
unfolding pages_of count_below
pages-counted readable writable zero = refl
pages-counted readable writable (suc page) =
    let a = length-append (pages_of readable writable page) (page_if (readable page) page (writable page)) in
    let b = pages-counted readable writable page in
    let d = one-more (readable page) (writable page) page in
    omega (arith, a, b, d)

-- ---- pages that are filled

-- a page has the words of that page of a program, and lies below address 80000000
abbrev pub IsPageOf : Source → Page → Type 0
IsPageOf s p = (p.number < page_count) × (p.words ≡ page_words s p.number)

one-filled : (s : Source) (page : ℕ) (b : Bool) → page < page_count → All (IsPageOf s) (if b then page_at s page ∷ [] else [])
one-filled s page true low = All-cons (IsPageOf s) (page_at s page) [] (low, refl) (All-nil (IsPageOf s))
one-filled s page false low = All-nil (IsPageOf s)

filled-are : (s : Source) (end : ℕ) → end ≤ page_count → All (IsPageOf s) (filled_below s end)
unfolding filled_below
filled-are s zero low = All-nil (IsPageOf s)
filled-are s (suc page) low =
    All-append (IsPageOf s) (filled_below s page) (if is_filled_page s.file (live s.file) page then page_at s page ∷ [] else [])
    (filled-are s page (omega arith))
    (one-filled s page (is_filled_page s.file (live s.file) page) (omega arith))

-- those of a class of data
pub class-pages-are : (s : Source) (k : ℕ) → All (IsPageOf s) (pages_of_class (filled_pages s) k)
class-pages-are s k =
    let pages = filled_pages s in
    All-take (IsPageOf s) (min 1024 (length pages - 1024 * k)) (drop (1024 * k) pages)
    (All-drop (IsPageOf s) (1024 * k) pages (filled-are s page_count (omega arith)))

-- ---- texts that spell them

pub pages-spelled : (program : Program) (class : ℕ) (s : Source) (texts : List PageSlot) (pages : List Page) → All (IsPageOf s) pages
    → AllZip (SpellsPage program class) texts pages → All (HasPage program class (page_words s)) texts
pages-spelled program class s [] [] are spell = All-nil (HasPage program class (page_words s))
pages-spelled program class s [] (p ∷ pages) are spell = absurd spell
pages-spelled program class s (t ∷ texts) [] are spell = absurd spell
pages-spelled program class s (t ∷ texts) (p ∷ pages) are spell =
    let here = All-head (IsPageOf s) p pages are in
    let has : HasPage program class (page_words s) t = record {
      below = subst (λ n. n < page_count) (sym spell.0.page_is) here.0;
      spells = spell.0.text_is ∙ ap page_text (here.1 ∙ ap (page_words s) (sym spell.0.page_is));
    } in
    All-cons (HasPage program class (page_words s)) t texts has
    (pages-spelled program class s texts pages (All-tail (IsPageOf s) p pages are) spell.1)

pub pages-named : (program : Program) (class : ℕ) (texts : List PageSlot) (pages : List Page) → AllZip (SpellsPage program class) texts pages
    → pages_of_slots texts ≡ numbers_of_pages pages
pages-named program class [] [] spell = refl
pages-named program class [] (p ∷ pages) spell = absurd spell
pages-named program class (t ∷ texts) [] spell = absurd spell
pages-named program class (t ∷ texts) (p ∷ pages) spell =
    ap (λ n. n ∷ pages_of_slots texts) spell.0.page_is ∙ ap (λ ns. p.number ∷ ns) (pages-named program class texts pages spell.1)

-- ---- shares of them

pub numbers-shared : (pages : List Page) (k : ℕ)
    → numbers_of_pages (pages_of_class pages k) ≡ shared (numbers_of_pages pages) (share_at class_pages (length (numbers_of_pages pages)) k)
numbers-shared pages k =
    let number = λ (p : Page). p.number in
    sym (take-map number (min 1024 (length pages - 1024 * k)) (drop (1024 * k) pages))
    ∙ ap (take (min 1024 (length pages - 1024 * k))) (sym (drop-map number (1024 * k) pages))
    ∙ ap (λ long. take (min 1024 (long - 1024 * k)) (drop (1024 * k) (numbers_of_pages pages))) (sym (length-map pages number))

pub class-has-pages : (pages : List Page) (k : ℕ) → k < class_count pages → 1 ≤ length (pages_of_class pages k)
class-has-pages pages k below =
    let last = (div_ceil_times (length pages) 1024 (omega arith)).1 in
    let a = length-take (min 1024 (length pages - 1024 * k)) (drop (1024 * k) pages) in
    let b = length-drop (1024 * k) pages in
    omega (arith, below, last, a, b)
