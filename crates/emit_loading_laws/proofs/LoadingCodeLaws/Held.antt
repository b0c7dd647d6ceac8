-- The memory that filled pages are.
use Rattle.std.proofs.Common.{◌≡◌, ℕ, suc, ◌/◌, ◌%◌, ◌^◌, ◌<◌, ◌==◌, ◌&&◌, ◌||◌, nat_lt, Bool, true, false, if◌then◌else◌, inl, inr, List, [], ◌∷◌, length, map, slice_index, slice_index_or, Option, Some, None, is_some, refl, ap, sym, subst, ◌∙◌, arith}
use Rattle.std.specs.List.{All, list_any}
use Rattle.std.specs.Option.{option_or}
use Rattle.std.proofs.lemmas.Bool.{lt-ltb, eqb-true, cases_lt}
use Rattle.std.proofs.lemmas.List.{get_or_past}
use Rattle.std.proofs.lemmas.List.Elements.{All-get_or}
use Rattle.run_definition.specs.Words.{IsWord, lane_of_word}
use Rattle.elf_image_parts.specs.Runs.{pages_of}
use Rattle.jvm_definition.specs.Values.{Array, ints, pages, Heap}
use Rattle.jvm_definition.specs.HostMemory.{byte_of}
use Rattle.emit_layout.specs.FieldNumbers.{page_count}
use Rattle.emit_loading.specs.declared.page_slot.PageSlot.{PageSlot}
use Rattle.emit_simulation_laws.specs.Match.{HoldsMemory}
use Rattle.emit_simulation_laws.proofs.MatchedPages.{byte_in, byte_word, byte-by-table, word-read}
use Rattle.emit_loading_laws.specs.Arrays.{set_ints}
use Rattle.emit_loading_laws.specs.MadePages.{HasTables, ArePages}
use Rattle.emit_loading_laws.specs.Filled.{HoldsPages, words_for, filled, RiseFrom}
use Rattle.emit_loading_laws.proofs.FillingLaws.Held.{page-holds, others-stay, held-stays}
use Rattle.emit_loading_laws.proofs.FillingLaws.Listed.{read-among, written-among}
use Rattle.emit_loading_laws.specs.Loaded.{IsPaged, paged}
use Rattle.emit_loading_laws.proofs.LoadingCodeLaws.Fills.{by_page}

-- ---- the words of a page

front : (page_words : ℕ → List ℕ) (slots : List PageSlot) (n k : ℕ) → (list_any (λ (s : PageSlot). s.page == n) slots ≡ false → slice_index (page_words n) k ≡ 0) → slice_index_or (words_for page_words (map by_page slots) n) k 0 ≡ slice_index (page_words n) k
front page_words [] n k zero = sym (zero refl)
front page_words (s ∷ slots) n k zero =
    by_test (s.page == n) refl (λ (e : (s.page == n) ≡ false). front page_words slots n k (λ none. zero (ap (λ t. t || list_any (λ (s : PageSlot). s.page == n) slots) e ∙ none)))
  where
    by_test : (b : Bool) → (s.page == n) ≡ b → ((s.page == n) ≡ false → slice_index_or (words_for page_words (map by_page slots) n) k 0 ≡ slice_index (page_words n) k) → slice_index_or (if s.page == n then page_words s.page else words_for page_words (map by_page slots) n) k 0 ≡ slice_index (page_words n) k
    by_test true e rest =
        ap (λ t. slice_index_or (if t then page_words s.page else words_for page_words (map by_page slots) n) k 0) e
        ∙ ap (λ m. slice_index (page_words m) k) (eqb-true s.page n e)
    by_test false e rest =
        ap (λ t. slice_index_or (if t then page_words s.page else words_for page_words (map by_page slots) n) k 0) e
        ∙ rest e

rises : (slots : List PageSlot) (low : ℕ) → RiseFrom low slots → RiseFrom low (map by_page slots)
rises [] low rise = tt
rises (s ∷ slots) low rise = (rise.0, rises slots (suc s.page) rise.1)

word-of : (given : List ℕ) (k : ℕ) → All IsWord given → IsWord (slice_index given k)
word-of given k are = elim (cases_lt k (length given)) [
  | inl within ↦ All-get_or IsWord given k 0 within are
  | inr past ↦ subst IsWord (sym (get_or_past given k 0 past)) (omega arith)
]

-- ---- options

some-is : (o : Option ℕ) → is_some o ≡ true → (p : ℕ) × (o ≡ Some p)
some-is (Some p) e = (p, refl)
some-is None e = cc

none-is : (o : Option ℕ) → is_some o ≡ false → o ≡ None
none-is None e = refl
none-is (Some p) e = cc

and-none : (b : Bool) → (b && false) ≡ false
and-none true = refl
and-none false = refl

no-page : (b : Bool) (o : Option ℕ) → o ≡ None → (if b then o else None) ≡ None
no-page true o e = e
no-page false o e = refl

no-byte : (b : Bool) → ◌≡◌ {A = Option ℕ} (if b then None else None) None
no-byte true = refl
no-byte false = refl

-- ---- what a table reads

module _ (heap : Heap) (places : ℕ → Option ℕ) (page_words : ℕ → List ℕ) (arrays : (n p : ℕ) → places n ≡ Some p → heap.array_at p ≡ Some (ints 1024 (λ i. slice_index (page_words n) i))) where
  abbrev lane : ℕ → ℕ
  lane a = lane_of_word (slice_index (page_words (a / 4096)) (a / 4 % 1024)) (a % 4)

  table-reads : (t : ℕ) (found : ℕ → Option ℕ) (test : ℕ → Bool) → heap.array_at t ≡ Some (pages page_count found) → ((n : ℕ) → is_some (found n) ≡ (nat_lt n page_count && test n)) → ((n : ℕ) → test n ≡ true → n < page_count) → ((n p : ℕ) → found n ≡ Some p → places n ≡ Some p) → (a : ℕ) → byte_of heap (Some t) a ≡ (if test (a / 4096) then Some (lane a) else None)
  table-reads t found test there some below sub a = byte-by-table heap t a found there ∙ by_test (test (a / 4096)) refl
    where
      by_test : (b : Bool) → test (a / 4096) ≡ b → byte_in heap (if nat_lt (a / 4096) page_count then found (a / 4096) else None) a ≡ (if test (a / 4096) then Some (lane a) else None)
      by_test true e =
          let n = a / 4096 in
          let less = below n e in
          let within = lt-ltb n page_count less in
          let page = some-is (found n) (some n ∙ ap (λ b. b && test n) within ∙ e) in
          ap (λ b. byte_in heap (if b then found n else None) a) within
          ∙ ap (λ o. byte_in heap o a) page.1
          ∙ ap (λ o. byte_word page.0 o a) (arrays n page.0 (sub n page.0 page.1))
          ∙ word-read page.0 a (λ i. slice_index (page_words n) i) (omega (arith, less))
          ∙ sym (ap (λ b. if b then Some (lane a) else None) e)
      by_test false e =
          let n = a / 4096 in
          let none = none-is (found n) (some n ∙ ap (λ b. nat_lt n page_count && b) e ∙ and-none (nat_lt n page_count)) in
          ap (λ o. byte_in heap o a) (no-page (nat_lt n page_count) (found n) none)
          ∙ no-byte (nat_lt a (2 ^ 32))
          ∙ sym (ap (λ b. if b then Some (lane a) else None) e)

-- both tables
both-read : (r w : Bool) (x : ℕ) → (w ≡ true → r ≡ true) → option_or (if r then Some x else None) (if w then Some x else None) ≡ (if r then Some x else None)
both-read true w x sub = refl
both-read false false x sub = refl
both-read false true x sub = cc' (sub refl)
  where
    cc' : false ≡ true → option_or (if false then Some x else None) (if true then Some x else None) ≡ (if false then Some x else None)
    cc' e = cc

some-if : (w : Bool) (x : ℕ) → is_some (if w then Some x else None) ≡ w
some-if true x = refl
some-if false x = refl

-- ---- the whole

no-table : (o : Option Array) (f : ℕ → ℕ) (g : ℕ → Option ℕ) → o ≡ Some (ints 1024 f) → o ≡ Some (pages page_count g) → ⊥
no-table o f g a b = differ (sym a ∙ b)
  where
    differ : Some (ints 1024 f) ≡ Some (pages page_count g) → ⊥
    differ e = cc

module _ (heap : Heap) (first second : ℕ) (places written : ℕ → Option ℕ) (tables : HasTables heap first second places written) (readable writable : ℕ → Bool) (page_words : ℕ → List ℕ) (slots : List PageSlot) (p : IsPaged readable writable page_words slots) (are : ArePages heap places written (pages_of readable writable page_count)) where
  abbrev after : Heap
  after = filled places page_words heap (map by_page slots)

  held-first : HoldsPages heap first places
  held-first = record {
    there = tables.readable_there;
    whole = λ n q is. record { words = λ _. 0; there = are.zeros n q is };
  }

  second-there : after.array_at second ≡ Some (pages page_count written)
  second-there =
      others-stay places page_words (map by_page slots) heap second (λ n is. no-table (heap.array_at second) (λ _. 0) written (are.zeros n second is) tables.writable_there)
      ∙ tables.writable_there

  arrays-are : (n q : ℕ) → places n ≡ Some q → after.array_at q ≡ Some (ints 1024 (λ i. slice_index (page_words n) i))
  arrays-are n q is =
      page-holds places page_words are.pages_apart (map by_page slots) heap 0 n q (rises slots 0 p.rise) is
      ∙ ap (λ a. set_ints a (words_for page_words (map by_page slots) n)) (are.zeros n q is)
      ∙ ap (λ (f : ℕ → ℕ). Some (ints 1024 f)) (λ t k. front page_words slots n k (p.zeros n k) t)

  some-read : (n : ℕ) → is_some (places n) ≡ (nat_lt n page_count && readable n)
  some-read n = are.read n ∙ read-among readable writable page_count n

  and-both : (b r w : Bool) → (w ≡ true → r ≡ true) → (b && (r && w)) ≡ (b && w)
  and-both false r w sub = refl
  and-both true true w sub = refl
  and-both true false false sub = refl
  and-both true false true sub = sub refl

  some-written : (n : ℕ) → is_some (written n) ≡ (nat_lt n page_count && writable n)
  some-written n =
      are.written n
      ∙ written-among readable writable page_count n
      ∙ and-both (nat_lt n page_count) (readable n) (writable n) (p.both n)

  reads-first : (a : ℕ) → byte_of after (Some first) a ≡ (if readable (a / 4096) then Some (lane after places page_words arrays-are a) else None)
  reads-first a = table-reads after places page_words arrays-are first places readable (held-stays places page_words (map by_page slots) heap first held-first).there some-read p.below (λ n q is. is) a

  reads-second : (a : ℕ) → byte_of after (Some second) a ≡ (if writable (a / 4096) then Some (lane after places page_words arrays-are a) else None)
  reads-second a = table-reads after places page_words arrays-are second written writable second-there some-written (λ n e. p.below n (p.both n e)) are.shared a

  bytes-are : (a : ℕ) → option_or (byte_of after (Some first) a) (byte_of after (Some second) a) ≡ (paged readable writable page_words).byte a
  bytes-are a =
      ap (λ o. option_or o (byte_of after (Some second) a)) (reads-first a)
      ∙ ap (λ o. option_or (if readable (a / 4096) then Some (lane after places page_words arrays-are a) else None) o) (reads-second a)
      ∙ both-read (readable (a / 4096)) (writable (a / 4096)) (lane after places page_words arrays-are a) (p.both (a / 4096))

  writes-are : (a : ℕ) → is_some (byte_of after (Some second) a) ≡ writable (a / 4096)
  writes-are a =
      ap is_some (reads-second a) ∙ some-if (writable (a / 4096)) (lane after places page_words arrays-are a)

  pub memory-held : HoldsMemory after first second (paged readable writable page_words)
  memory-held = record {
    readable_pages = places;
    writable_pages = written;
    readable_there = (held-stays places page_words (map by_page slots) heap first held-first).there;
    writable_there = second-there;
    whole = λ n q is. record {
      words = λ i. slice_index (page_words n) i;
      there = arrays-are n q is;
      are_words = λ i. word-of (page_words n) i (p.are_words n);
    };
    apart = are.pages_apart;
    shared = are.shared;
    reads = λ j. record { byte = λ a. bytes-are a j; writable = λ a. writes-are a j };
  }
