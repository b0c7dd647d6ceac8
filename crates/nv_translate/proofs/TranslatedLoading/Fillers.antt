-- The methods that fill pages, of the classes of data of a translation.
use Rattle.std.proofs.Common.{◌≡◌, ◌≢◌, ℕ, zero, suc, ◌+◌, ◌<◌, ◌≤◌, Bool, false, List, [], ◌∷◌, ◌++◌, map, flat_map, length, refl, ap, sym, ◌∙◌, arith}
use Rattle.std.specs.List.{All, range_with_len}
use Rattle.std.proofs.lemmas.List.{map-append, length-map}
use Rattle.std.proofs.lemmas.List.Elements.{All-nil, All-cons}
use Rattle.elf_definition.specs.Start.{Source}
use Rattle.elf_image_parts.specs.Pages.{Page, page_words}
use Rattle.jvm_definition.specs.declared.kind.Kind.TheVariants as kinds
use Rattle.jvm_definition.specs.Program.{Program}
use Rattle.method_splitter.specs.Shares.{share_at, share_count, shared}
use Rattle.method_splitter.specs.Laws.{SharesAreAll}
use Rattle.emit_program_laws.specs.LoadingCodeLaws.Loaded.{Filler, FillsApart, IsFiller, HasSlots, numbers_of, slots_of}
use Rattle.translate_classes.specs.Making.{Plan}
use Rattle.translate_classes.specs.Data.{words_plan, fill_plan}
use Rattle.translate_program.specs.DataFiles.{class_pages, class_count, class_number, filled_pages, pages_of_class, first_method, fill_of, fills_of}
use Rattle.nv_translate.specs.Linked.{IsPlanned, HasDataClass}
use Rattle.nv_translate.proofs.TranslatedLoading.Planned.{no-parameters, ints-and-text, planned-method, planned-lies, first-planned}
use Rattle.nv_translate.proofs.TranslatedLoading.Pages.{numbers_of_pages, pages_of_slots, class-pages-are, pages-spelled, pages-named, numbers-shared, class-has-pages}

module _ (program : Program) (source : Source) (code_classes methods : ℕ) (data_has : (k : ℕ) → k < class_count (filled_pages source) → HasDataClass program code_classes methods (filled_pages source) k) where
  abbrev pages : List Page
  pages = filled_pages source

  abbrev count : ℕ
  count = class_count pages

  abbrev Has : ℕ → Type 0
  Has k = HasDataClass program code_classes methods pages k

  -- these methods of the classes are others than this one
  abbrev pub AreApart : (ℕ → ℕ) → ℕ → Type 0
  AreApart number m = (k : ℕ) → k < count → number k ≢ m

  abbrev filler : (k : ℕ) → Has k → Filler
  filler k has = record {
    number = fill_of methods k;
    class = class_number code_classes k;
    puts = first_method methods k;
    slots = has.texts;
  }

  -- those of so many classes from one on
  abbrev fillers-from : (a n : ℕ) → a + n ≤ count → List Filler
  fillers-from a zero fits = []
  fillers-from a (suc n) fits = filler a (data_has a (omega arith)) ∷ fillers-from (a + 1) n (omega arith)

  -- ---- what each is

  is-filler : (m k : ℕ) (has : Has k) → first_method methods k ≢ m → fill_of methods k ≢ m
      → IsFiller program m (page_words source) (filler k has)
  is-filler m k has words_apart fill_apart =
      let class = class_number code_classes k in
      let first = first_method methods k in
      let fill : Plan = fill_plan has.texts class first has.by in
      let words_is : IsPlanned program first (words_plan has.by) = first-planned program first (words_plan has.by) (fill ∷ []) has.planned in
      let fill_is : IsPlanned program (fill_of methods k) fill = has.planned 1 fill refl in
      record {
        apart = fill_apart;
        puts_apart = words_apart;
        fills = planned-method program (fill_of methods k) fill [] fill_is no-parameters;
        fills_lies = planned-lies program (fill_of methods k) fill fill_is;
        puts_is = planned-method program first (words_plan has.by) (kinds.Ints ∷ kinds.Text ∷ []) words_is ints-and-text;
        puts_lies = planned-lies program first (words_plan has.by) words_is;
        has = pages-spelled program class source has.texts (pages_of_class pages k) (class-pages-are source k) has.texts_are;
      }

  has-slots : (k : ℕ) (has : Has k) → k < count → HasSlots (filler k has)
  has-slots k has below =
      let class = class_number code_classes k in
      let own = pages_of_class pages k in
      let same = ap length (pages-named program class has.texts own has.texts_are) in
      let a = length-map has.texts (λ t. t.page) in
      let b = length-map own (λ p. p.number) in
      let some = class-has-pages pages k below in
      omega (arith, same, a, b, some)

  -- ---- what all are

  are-fillers : (m : ℕ) → AreApart (first_method methods) m → AreApart (fill_of methods) m
      → (a n : ℕ) (fits : a + n ≤ count) → All (IsFiller program m (page_words source)) (fillers-from a n fits)
  are-fillers m words_apart fills_apart a zero fits = All-nil (IsFiller program m (page_words source))
  are-fillers m words_apart fills_apart a (suc n) fits =
      let below : a < count = omega arith in
      let rest : a + 1 + n ≤ count = omega arith in
      All-cons (IsFiller program m (page_words source)) (filler a (data_has a below)) (fillers-from (a + 1) n rest)
      (is-filler m a (data_has a below) (words_apart a below) (fills_apart a below))
      (are-fillers m words_apart fills_apart (a + 1) n rest)

  are-apart : (test : ℕ → Bool) → ((k : ℕ) → k < count → test (first_method methods k) ≡ false) → ((k : ℕ) → k < count → test (fill_of methods k) ≡ false)
      → (a n : ℕ) (fits : a + n ≤ count) → All (FillsApart test) (fillers-from a n fits)
  are-apart test words fills a zero fits = All-nil (FillsApart test)
  are-apart test words fills a (suc n) fits =
      let below : a < count = omega arith in
      let rest : a + 1 + n ≤ count = omega arith in
      All-cons (FillsApart test) (filler a (data_has a below)) (fillers-from (a + 1) n rest) (fills a below, words a below)
      (are-apart test words fills (a + 1) n rest)

  have-slots : (a n : ℕ) (fits : a + n ≤ count) → All HasSlots (fillers-from a n fits)
  have-slots a zero fits = All-nil HasSlots
  have-slots a (suc n) fits =
      let below : a < count = omega arith in
      let rest : a + 1 + n ≤ count = omega arith in
      All-cons HasSlots (filler a (data_has a below)) (fillers-from (a + 1) n rest)
      (has-slots a (data_has a below) below)
      (have-slots (a + 1) n rest)

  numbers-are : (a n : ℕ) (fits : a + n ≤ count) → numbers_of (fillers-from a n fits) ≡ map (fill_of methods) (range_with_len a n)
  numbers-are a zero fits = refl
  numbers-are a (suc n) fits = ap (λ ns. fill_of methods a ∷ ns) (numbers-are (a + 1) n (omega arith))

  -- the share of the pages' numbers that a class has
  abbrev own_numbers : ℕ → List ℕ
  own_numbers k = shared (numbers_of_pages pages) (share_at class_pages (length (numbers_of_pages pages)) k)

  slots-are : (a n : ℕ) (fits : a + n ≤ count)
      → pages_of_slots (slots_of (fillers-from a n fits))
      ≡ flat_map (shared (numbers_of_pages pages)) (map (share_at class_pages (length (numbers_of_pages pages))) (range_with_len a n))
  slots-are a zero fits = refl
  slots-are a (suc n) fits =
      let below : a < count = omega arith in
      let rest : a + 1 + n ≤ count = omega arith in
      let has = data_has a below in
      let others = slots_of (fillers-from (a + 1) n rest) in
      map-append (λ t. t.page) has.texts others
      ∙ ap (λ ns. ns ++ pages_of_slots others) (pages-named program (class_number code_classes a) has.texts (pages_of_class pages a) has.texts_are ∙ numbers-shared pages a)
      ∙ ap (λ ns. own_numbers a ++ ns) (slots-are (a + 1) n rest)

  -- ---- the methods of all classes of data

  pub fits-all : 0 + count ≤ count
  fits-all = omega arith

  abbrev pub fillers : List Filler
  fillers = fillers-from 0 count fits-all

  pub all-fill : (m : ℕ) → AreApart (first_method methods) m → AreApart (fill_of methods) m
      → All (IsFiller program m (page_words source)) fillers
  all-fill m words_apart fills_apart = are-fillers m words_apart fills_apart 0 count fits-all

  pub all-apart : (test : ℕ → Bool) → ((k : ℕ) → k < count → test (first_method methods k) ≡ false) → ((k : ℕ) → k < count → test (fill_of methods k) ≡ false)
      → All (FillsApart test) fillers
  all-apart test words fills = are-apart test words fills 0 count fits-all

  pub all-have-slots : All HasSlots fillers
  all-have-slots = have-slots 0 count fits-all

  pub all-numbers : numbers_of fillers ≡ fills_of methods count
  all-numbers = numbers-are 0 count fits-all

  pub all-slots : SharesAreAll → pages_of_slots (slots_of fillers) ≡ numbers_of_pages pages
  all-slots joined =
      slots-are 0 count fits-all
      ∙ ap (λ long. flat_map (shared (numbers_of_pages pages)) (map (share_at class_pages (length (numbers_of_pages pages))) (range_with_len 0 (share_count class_pages long))))
      (sym (length-map pages (λ p. p.number)))
      ∙ joined class_pages (numbers_of_pages pages) (omega arith)
