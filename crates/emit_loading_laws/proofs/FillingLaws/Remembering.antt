-- Pages that were made and filled hold a memory.
use Rattle.std.proofs.Common.{◌≡◌, ℕ, zero, suc, ◌/◌, ◌%◌, ◌^◌, ◌<◌, ◌==◌, nat_lt, Bool, true, false, if◌then◌else◌, List, [], ◌∷◌, slice_index_or, Option, Some, None, is_some, refl, ap, ◌∙◌, sym, arith}
use Rattle.std.specs.List.{All}
use Rattle.std.specs.Option.{option_or}
use Rattle.std.proofs.lemmas.Bool.{lt-ltb}
use Rattle.std.proofs.lemmas.List.Elements.{All-nil, All-head, All-tail}
use Rattle.std.proofs.lemmas.Option.{none-some}
use Rattle.run_definition.specs.Words.{IsWord, lane_of_word}
use Rattle.run_definition.specs.Memory.{Memory}
use Rattle.jvm_definition.specs.Program.{Program}
use Rattle.jvm_definition.specs.Values.{ints, pages, Heap}
use Rattle.jvm_definition.specs.HostMemory.{byte_of, memory_of}
use Rattle.emit_layout.specs.FieldNumbers.{page_count}
use Rattle.emit_loading.specs.declared.page_slot.PageSlot.{PageSlot}
use Rattle.emit_simulation_laws.specs.Match.{HoldsMemory, host_memory}
use Rattle.emit_simulation_laws.proofs.MatchedPages.{byte_in, byte_word, byte-by-table, word-read}
use Rattle.emit_loading_laws.specs.Texts.{AreWords}
use Rattle.emit_loading_laws.specs.Arrays.{set_ints}
use Rattle.emit_loading_laws.specs.Filled.{HasText, filled, with_page_ints, words_for, RiseFrom}
use Rattle.emit_loading_laws.specs.MadePages.{HasTables, made, readable_after, writable_after, PagesRise, is_among, is_written_among}
use Rattle.emit_loading_laws.specs.Memory.{HoldsWords, memory_of_pages}
use Rattle.emit_loading_laws.proofs.FillingLaws.Filling.{stays-table}
use Rattle.emit_loading_laws.proofs.FillingLaws.Held.{page-holds, used-stays}
use Rattle.emit_loading_laws.proofs.FillingLaws.Told.{tables-after, pages-there}

-- ---- what is read through tables

nothing-in : (b : Bool) → ◌≡◌ {A = Option ℕ} (if b then None else None) None
nothing-in true = refl
nothing-in false = refl

-- the byte of a page that is there, and of one that is not
page-read : (heap : Heap) (table a p : ℕ) (places : ℕ → Option ℕ) (words : ℕ → ℕ) → heap.array_at table ≡ Some (pages page_count places) → a / 4096 < page_count → places (a / 4096) ≡ Some p → heap.array_at p ≡ Some (ints 1024 words) → byte_of heap (Some table) a ≡ Some (lane_of_word (words (a / 4 % 1024)) (a % 4))
page-read heap table a p places words table_is within is there =
    let low : a < 2 ^ 32 = omega (arith, within) in
    byte-by-table heap table a places table_is
    ∙ ap (λ b. byte_in heap (if b then places (a / 4096) else None) a) (lt-ltb (a / 4096) page_count within)
    ∙ ap (λ o. byte_in heap o a) is
    ∙ ap (λ o. byte_word p o a) there
    ∙ word-read p a words low

none-read : (heap : Heap) (table a : ℕ) (places : ℕ → Option ℕ) → heap.array_at table ≡ Some (pages page_count places) → places (a / 4096) ≡ None → byte_of heap (Some table) a ≡ None
none-read heap table a places table_is is =
    byte-by-table heap table a places table_is
    ∙ ap (λ o. byte_in heap (if nat_lt (a / 4096) page_count then o else None) a) is
    ∙ ap (λ o. byte_in heap o a) (nothing-in (nat_lt (a / 4096) page_count))
    ∙ nothing-in (nat_lt a (2 ^ 32))

module _ (heap : Heap) (readable writable : ℕ) (readable_pages writable_pages : ℕ → Option ℕ) (reads writes : ℕ → Bool) (words : ℕ → ℕ → ℕ) (h : HoldsWords heap readable writable readable_pages writable_pages reads writes words) where
  abbrev memory : Memory
  memory = memory_of_pages reads writes words

  seen : Memory
  seen = memory_of (host_memory heap readable writable)

  within : (n p : ℕ) → readable_pages n ≡ Some p → n < page_count
  within n p is = h.below n (sym (h.read n) ∙ ap is_some is)

  -- a page that cannot be read cannot be written
  unwritten : (n : ℕ) (o : Option ℕ) → writable_pages n ≡ o → readable_pages n ≡ None → writable_pages n ≡ None
  unwritten n None is none = is
  unwritten n (Some p) is none = absurd (none-some p (sym none ∙ h.shared n p is))

  byte-is : (a : ℕ) (o : Option ℕ) → readable_pages (a / 4096) ≡ o → option_or (byte_of heap (Some readable) a) (byte_of heap (Some writable) a) ≡ memory.byte a
  byte-is a None is =
      let n = a / 4096 in
      ap (λ x. option_or x (byte_of heap (Some writable) a)) (none-read heap readable a readable_pages h.tables.readable_there is)
      ∙ none-read heap writable a writable_pages h.tables.writable_there (unwritten n (writable_pages n) refl is)
      ∙ sym (ap (λ b. if b then Some (lane_of_word (words n (a / 4 % 1024)) (a % 4)) else None) (sym (h.read n) ∙ ap is_some is))
  byte-is a (Some p) is =
      let n = a / 4096 in
      ap (λ x. option_or x (byte_of heap (Some writable) a)) (page-read heap readable a p readable_pages (words n) h.tables.readable_there (within n p is) is (h.there n p is))
      ∙ sym (ap (λ b. if b then Some (lane_of_word (words n (a / 4 % 1024)) (a % 4)) else None) (sym (h.read n) ∙ ap is_some is))

  writable-is : (a : ℕ) (o : Option ℕ) → writable_pages (a / 4096) ≡ o → is_some (byte_of heap (Some writable) a) ≡ writes (a / 4096)
  writable-is a None is =
      ap is_some (none-read heap writable a writable_pages h.tables.writable_there is)
      ∙ sym (sym (h.written (a / 4096)) ∙ ap is_some is)
  writable-is a (Some p) is =
      let n = a / 4096 in
      let there = h.shared n p is in
      ap is_some (page-read heap writable a p writable_pages (words n) h.tables.writable_there (within n p there) is (h.there n p there))
      ∙ sym (sym (h.written n) ∙ ap is_some is)

  pub memory-held : HoldsMemory heap readable writable memory
  memory-held = record {
    readable_pages = readable_pages;
    writable_pages = writable_pages;
    readable_there = h.tables.readable_there;
    writable_there = h.tables.writable_there;
    whole = λ n p is. record { words = words n; there = h.there n p is; are_words = h.are_words n };
    apart = h.pages_apart;
    shared = h.shared;
    reads = λ i. record { byte = λ a. byte-is a (readable_pages (a / 4096)) refl i; writable = λ a. writable-is a (writable_pages (a / 4096)) refl i };
  }

-- ---- pages of zeros

pub zeros-held : (readable writable : ℕ) (xs : List (ℕ × Bool)) (heap : Heap) → HasTables heap readable writable (λ _. None) (λ _. None) → PagesRise 0 xs → ((n : ℕ) → is_among xs n ≡ true → n < page_count) → HoldsWords (made readable writable heap xs) readable writable (readable_after (λ _. None) heap.used xs) (writable_after (λ _. None) heap.used xs) (is_among xs) (is_written_among xs) (λ n i. 0)
zeros-held readable writable xs heap has rise below =
    let are = pages-there readable writable xs heap has rise in
    record {
      tables = tables-after readable writable xs heap (λ _. None) (λ _. None) has;
      there = are.zeros;
      are_words = λ n i. omega arith;
      pages_apart = are.pages_apart;
      shared = are.shared;
      read = are.read;
      written = are.written;
      below = below;
    }

-- ---- words of texts

word-there : (given : List ℕ) (i d : ℕ) → AreWords given → IsWord d → IsWord (slice_index_or given i d)
word-there [] i d are word = word
word-there (v ∷ given) zero d are word = All-head IsWord v given are
word-there (v ∷ given) (suc i) d are word = word-there given i d (All-tail IsWord v given are) word

words-are : (program : Program) (class : ℕ) (given : ℕ → List ℕ) (slots : List PageSlot) (n : ℕ) → All (HasText program class given) slots → AreWords (words_for given slots n)
words-are program class given [] n has = All-nil IsWord
words-are program class given (s ∷ slots) n has =
    either (s.page == n) (All-head (HasText program class given) s slots has).are_words (words-are program class given slots n (All-tail (HasText program class given) s slots has))
  where
    either : (b : Bool) → AreWords (given s.slot) → AreWords (words_for given slots n) → AreWords (if b then given s.slot else words_for given slots n)
    either true first rest = first
    either false first rest = rest

table-stays : (places : ℕ → Option ℕ) (given : ℕ → List ℕ) (slots : List PageSlot) (heap : Heap) (table : ℕ) (others : ℕ → Option ℕ) → heap.array_at table ≡ Some (pages page_count others) → (filled places given heap slots).array_at table ≡ Some (pages page_count others)
table-stays places given [] heap table others there = there
table-stays places given (s ∷ slots) heap table others there =
    table-stays places given slots (with_page_ints heap (places s.page) (given s.slot)) table others (stays-table heap (places s.page) (given s.slot) table others there)

pub words-held : (program : Program) (class : ℕ) (given : ℕ → List ℕ) (slots : List PageSlot) (heap : Heap) (readable writable : ℕ) (readable_pages writable_pages : ℕ → Option ℕ) (reads writes : ℕ → Bool) (words : ℕ → ℕ → ℕ) → All (HasText program class given) slots → RiseFrom 0 slots → HoldsWords heap readable writable readable_pages writable_pages reads writes words → HoldsWords (filled readable_pages given heap slots) readable writable readable_pages writable_pages reads writes (λ n i. slice_index_or (words_for given slots n) i (words n i))
words-held program class given slots heap readable writable readable_pages writable_pages reads writes words has rise h =
    let used = used-stays readable_pages given slots heap in
    let first = h.tables.readable_made in
    let second = h.tables.writable_made in
    record {
      tables = record { readable_there = table-stays readable_pages given slots heap readable readable_pages h.tables.readable_there; writable_there = table-stays readable_pages given slots heap writable writable_pages h.tables.writable_there; readable_made = omega (arith, used, first); writable_made = omega (arith, used, second); apart = h.tables.apart };
      there = λ n p is. page-holds readable_pages given h.pages_apart slots heap 0 n p rise is ∙ ap (λ a. set_ints a (words_for given slots n)) (h.there n p is);
      are_words = λ n i. word-there (words_for given slots n) i (words n i) (words-are program class given slots n has) (h.are_words n i);
      pages_apart = h.pages_apart;
      shared = h.shared;
      read = h.read;
      written = h.written;
      below = h.below;
    }
