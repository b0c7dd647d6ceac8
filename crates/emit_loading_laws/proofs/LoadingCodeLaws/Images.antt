-- The memory of a program as pages of words.
use Rattle.std.proofs.Common.{◌≡◌, ℕ, zero, suc, ◌+◌, ◌-◌, ◌*◌, ◌/◌, ◌%◌, ◌^◌, ◌<◌, ◌≤◌, ◌==◌, ◌&&◌, ◌||◌, nat_lt, Bool, true, false, if◌then◌else◌, ◌⊎◌, inl, inr, List, [], ◌∷◌, ◌++◌, length, map, slice_index, Some, None, refl, ap, sym, subst, ◌∙◌, arith}
use Rattle.std.specs.List.{list_any, range_with_len}
use Rattle.std.proofs.lemmas.Bool.{lt-ltb, eq-eqb, ne_eqb, cases_eq, cases_lt}
use Rattle.std.proofs.lemmas.List.{get_or_past, length-map, map-append, length-append}
use Rattle.std.proofs.lemmas.List.FromFn.{length-map-range_with_len, get_or-map-range_with_len}
use Rattle.std.proofs.lemmas.List.Elements.{All-map}
use Rattle.run_definition.specs.Words.{IsWord, lane_of_word, word_of_bytes}
use Rattle.elf_definition.specs.declared.segment.Segment.{Segment}
use Rattle.elf_definition.specs.Segments.{live, is_writable}
use Rattle.elf_definition.specs.Start.{Source, readable, writable, start_byte, image_of}
use Rattle.elf_definition.specs.Content.{stored_byte, stored_word, is_filled_page}
use Rattle.mips_definition.specs.State.{argument_page}
use Rattle.elf_definition.specs.Pages.{is_on_page, is_segment_page, is_data_page, is_heap_page, is_stack_page, is_readable_page, is_writable_page}
use Rattle.elf_image_parts.specs.Pages.{Page, page_words, page_at, filled_below}
use Rattle.elf_image_parts.specs.Runs.{pages_of}
use Rattle.emit_layout.specs.FieldNumbers.{page_count}
use Rattle.emit_loading.specs.declared.page_slot.PageSlot.{PageSlot}
use Rattle.emit_loading_laws.specs.Texts.{AreWords}
use Rattle.emit_loading_laws.specs.Filled.{RiseFrom}
use Rattle.emit_loading_laws.specs.MadePages.{PagesRise, is_among}
use Rattle.emit_loading_laws.proofs.FillingLaws.Listed.{pages-rise, read-among}
use Rattle.emit_loading_laws.specs.Loaded.{IsPaged, paged}
use Rattle.emit_loading_laws.specs.Images.{IsWhole}

-- ---- words

byte-low : (x : ℕ) → x % 2 ^ 8 < 2 ^ 8
byte-low x = omega arith

bytes-word : (a b c d : ℕ) → a < 2 ^ 8 → b < 2 ^ 8 → c < 2 ^ 8 → d < 2 ^ 8 → IsWord (word_of_bytes a b c d)
bytes-word a b c d ha hb hc hd = omega (arith, ha, hb, hc, hd)

bytes-zero : (a b c d : ℕ) → a ≡ 0 → b ≡ 0 → c ≡ 0 → d ≡ 0 → word_of_bytes a b c d ≡ 0
bytes-zero a b c d ha hb hc hd = omega (arith, ha, hb, hc, hd)

page-word : (s : Source) (n k : ℕ) → k < 1024 → slice_index (page_words s n) k ≡ stored_word s.file (live s.file) (4096 * n + 4 * k)
unfolding page_words
page-word s n k within =
    get_or-map-range_with_len (λ i. stored_word s.file (live s.file) (4096 * n + 4 * i)) 0 1024 k k 0 within (omega arith)

page-long : (s : Source) (n : ℕ) → length (page_words s n) ≡ 1024
unfolding page_words
page-long s n = length-map-range_with_len (λ i. stored_word s.file (live s.file) (4096 * n + 4 * i)) 0 1024

module _ (s : Source) (is : IsWhole s) where
  byte-is : (at : ℕ) → stored_byte s.file (live s.file) at < 2 ^ 8
  byte-is at = subst (λ b. b < 2 ^ 8) (is.lanes at) (byte-low (stored_word s.file (live s.file) (4 * (at / 4)) / 2 ^ (24 - 8 * (at % 4))))

  word-is : (at : ℕ) → IsWord (stored_word s.file (live s.file) at)
  unfolding stored_word
  word-is at = bytes-word _ _ _ _ (byte-is at) (byte-is (at + 1)) (byte-is (at + 2)) (byte-is (at + 3))

  words-are : (n : ℕ) → AreWords (page_words s n)
  unfolding page_words
  words-are n =
      All-map IsWord (λ k. stored_word s.file (live s.file) (4096 * n + 4 * k)) (range_with_len 0 1024) (λ k d within. word-is _)

  -- ---- bytes

  byte-read : (at : ℕ) → lane_of_word (slice_index (page_words s (at / 4096)) (at / 4 % 1024)) (at % 4) ≡ stored_byte s.file (live s.file) at
  byte-read at =
      let place : 4096 * (at / 4096) + 4 * (at / 4 % 1024) ≡ 4 * (at / 4) = omega arith in
      ap (λ w. lane_of_word w (at % 4)) (page-word s (at / 4096) (at / 4 % 1024) (omega arith) ∙ ap (stored_word s.file (live s.file)) place)
      ∙ is.lanes at

  bytes-are : (at : ℕ) → (paged (readable s) (writable s) (page_words s)).byte at ≡ start_byte s at
  unfolding start_byte
  bytes-are at = ap (λ b. if readable s (at / 4096) then Some b else None) (byte-read at)

  pub memory-is : paged (readable s) (writable s) (page_words s) ≡ (image_of s).memory
  unfolding image_of
  memory-is = λ j. record { byte = λ at. bytes-are at j; writable = λ at. writable s (at / 4096) }

  -- ---- pages that are not filled

  zero-word : (n k : ℕ) → is_filled_page s.file (live s.file) n ≡ false → k < 1024 → stored_word s.file (live s.file) (4096 * n + 4 * k) ≡ 0
  unfolding stored_word
  zero-word n k off within = bytes-zero _ _ _ _ (zero-byte (4096 * n + 4 * k) (omega (arith, within))) (zero-byte (4096 * n + 4 * k + 1) (omega (arith, within))) (zero-byte (4096 * n + 4 * k + 2) (omega (arith, within))) (zero-byte (4096 * n + 4 * k + 3) (omega (arith, within)))
    where
      zero-byte : (at : ℕ) → at / 4096 ≡ n → stored_byte s.file (live s.file) at ≡ 0
      zero-byte at page = is.zeros at (ap (is_filled_page s.file (live s.file)) page ∙ off)

  pub zero-words : (n k : ℕ) → is_filled_page s.file (live s.file) n ≡ false → slice_index (page_words s n) k ≡ 0
  zero-words n k off = elim (cases_lt k 1024) [
    | inl within ↦ page-word s n k within ∙ zero-word n k off within
    | inr past ↦ let size = page-long s n in get_or_past (page_words s n) k 0 (omega (arith, size, past))
  ]

-- ---- which pages can be read

first-or : (a b : Bool) → (a && b) ≡ true → a ≡ true
first-or true b e = refl
first-or false b e = e

filled-segment : (s : Source) (n : ℕ) → is_filled_page s.file (live s.file) n ≡ true → is_segment_page (live s.file) n ≡ true
unfolding is_filled_page
filled-segment s n e = first-or (is_segment_page (live s.file) n) _ e

four : (a b c d : Bool) → a ≡ true → (a || b || c || d) ≡ true
four true b c d e = refl
four false b c d e = cc

pub filled-read : (s : Source) (n : ℕ) → is_filled_page s.file (live s.file) n ≡ true → readable s n ≡ true
unfolding is_readable_page
filled-read s n e =
    four (is_segment_page (live s.file) n) (is_heap_page (live s.file) s.heap n) (is_stack_page s.stack n) (n == argument_page / 4096) (filled-segment s n e)

more-any : (page : ℕ) (segments : List Segment) → list_any (λ t. is_writable t && is_on_page page t) segments ≡ true → list_any (is_on_page page) segments ≡ true
more-any page [] e = e
more-any page (t ∷ segments) e =
    either (is_writable t) (is_on_page page t) (list_any (λ u. is_writable u && is_on_page page u) segments) (list_any (is_on_page page) segments) (more-any page segments) e
  where
    either : (w o a b : Bool) → (a ≡ true → b ≡ true) → ((w && o) || a) ≡ true → (o || b) ≡ true
    either w true a b rest e = refl
    either true false a b rest e = rest e
    either false false a b rest e = rest e

data-segment : (s : Source) (n : ℕ) → is_data_page (live s.file) n ≡ true → is_segment_page (live s.file) n ≡ true
unfolding is_data_page is_segment_page
data-segment s n e = more-any n (live s.file) e

false-true : false ≡ true → ⊥
false-true e = cc

swap-first : (a b x y z : Bool) → (a ≡ true → b ≡ true) → (a || x || y || z) ≡ true → (b || x || y || z) ≡ true
swap-first a true x y z sub e = refl
swap-first true false x y z sub e = absurd (false-true (sub refl))
swap-first false false x y z sub e = e

written-read : (s : Source) (n : ℕ) → writable s n ≡ true → readable s n ≡ true
unfolding is_writable_page is_readable_page
written-read s n e =
    swap-first (is_data_page (live s.file) n) (is_segment_page (live s.file) n) (is_heap_page (live s.file) s.heap n) (is_stack_page s.stack n) (n == argument_page / 4096) (data-segment s n) e

-- ---- the filled pages as a list

abbrev is_filled : Source → ℕ → Bool
is_filled s n = is_filled_page s.file (live s.file) n

abbrev listed : Source → ℕ → List (ℕ × Bool)
listed s end = pages_of (is_filled s) (λ _. false) end

abbrev numbers : List (ℕ × Bool) → List ℕ
numbers xs = map (λ (x : ℕ × Bool). x.0) xs

abbrev page_numbers : List Page → List ℕ
page_numbers xs = map (λ (p : Page). p.number) xs

same-numbers : (s : Source) (end : ℕ) → page_numbers (filled_below s end) ≡ numbers (listed s end)
unfolding filled_below pages_of
same-numbers s zero = refl
same-numbers s (suc page) =
    map-append (λ (p : Page). p.number) (filled_below s page) (if is_filled s page then page_at s page ∷ [] else [])
    ∙ ap (λ ns. ns ++ page_numbers (if is_filled s page then page_at s page ∷ [] else [])) (same-numbers s page)
    ∙ ap (λ ns. numbers (listed s page) ++ ns) (one (is_filled s page))
    ∙ sym (map-append (λ (x : ℕ × Bool). x.0) (listed s page) (if is_filled s page then (page, false) ∷ [] else []))
  where
    one : (b : Bool) → page_numbers (if b then page_at s page ∷ [] else []) ≡ numbers (if b then (page, false) ∷ [] else [])
    one true = refl
    one false = refl

Ascend : ℕ → List ℕ → Type 0
Ascend low [] = Unit {0}
Ascend low (n ∷ ns) = (low ≤ n) × Ascend (suc n) ns

ascend-numbers : (low : ℕ) (xs : List (ℕ × Bool)) → PagesRise low xs → Ascend low (numbers xs)
unfolding Ascend
ascend-numbers low [] rise = tt
ascend-numbers low (x ∷ xs) rise = (rise.0, ascend-numbers (suc x.0) xs rise.1)

abbrev slot_pages : List PageSlot → List ℕ
slot_pages slots = map (λ (t : PageSlot). t.page) slots

slots-rise : (low : ℕ) (slots : List PageSlot) → Ascend low (slot_pages slots) → RiseFrom low slots
unfolding Ascend
slots-rise low [] rise = tt
slots-rise low (t ∷ slots) rise = (rise.0, slots-rise (suc t.page) slots rise.1)

any-slot : (n : ℕ) (slots : List PageSlot) → list_any (λ (t : PageSlot). t.page == n) slots ≡ list_any (λ k. k == n) (slot_pages slots)
any-slot n [] = refl
any-slot n (t ∷ slots) = ap (λ b. (t.page == n) || b) (any-slot n slots)

turned : (a b : ℕ) → (a == b) ≡ (b == a)
turned a b = either (cases_eq a b)
  where
    either : (a ≡ b) ⊎ (a ≡ b → ⊥) → (a == b) ≡ (b == a)
    either (inl e) = eq-eqb a b e ∙ sym (eq-eqb b a (sym e))
    either (inr ne) = ne_eqb a b ne ∙ sym (ne_eqb b a (λ e. ne (sym e)))

any-number : (n : ℕ) (xs : List (ℕ × Bool)) → list_any (λ k. k == n) (numbers xs) ≡ is_among xs n
any-number n [] = refl
any-number n (x ∷ xs) =
    ap (λ b. b || list_any (λ k. k == n) (numbers xs)) (turned x.0 n) ∙ ap (λ b. (n == x.0) || b) (any-number n xs)

differ : true ≡ false → ⊥
differ e = cc

abbrev page_if : Bool → ℕ → Bool → List (ℕ × Bool)
page_if b page w = if b then (page, w) ∷ [] else []

one-fewer : (f r w : Bool) (page : ℕ) → (f ≡ true → r ≡ true) → length (page_if f page false) ≤ length (page_if r page w)
one-fewer true true w page sub = omega arith
one-fewer false true w page sub = omega arith
one-fewer false false w page sub = omega arith
one-fewer true false w page sub = absurd (differ (sym (sub refl)))

fewer : (s : Source) (end : ℕ) → length (listed s end) ≤ length (pages_of (readable s) (writable s) end)
unfolding pages_of
fewer s zero = omega arith
fewer s (suc page) =
    let a = length-append (listed s page) (page_if (is_filled s page) page false) in
    let b = length-append (pages_of (readable s) (writable s) page) (page_if (readable s page) page (writable s page)) in
    let c = fewer s page in
    let d = one-fewer (is_filled s page) (readable s page) (writable s page) page (filled-read s page) in
    omega (arith, a, b, c, d)

module _ (s : Source) (is : IsWhole s) (slots : List PageSlot) (same : slot_pages slots ≡ page_numbers (filled_below s page_count)) where
  same-list : slot_pages slots ≡ numbers (listed s page_count)
  same-list = same ∙ same-numbers s page_count

  low-page : (n : ℕ) → readable s n ≡ true → n < page_count
  low-page n e = elim (cases_lt n page_count) [
    | inl less ↦ less
    | inr past ↦ absurd (differ (sym e ∙ is.low n past))
  ]

  not-filled : (n : ℕ) → list_any (λ (t : PageSlot). t.page == n) slots ≡ false → is_filled s n ≡ false
  not-filled n none = by_test (is_filled s n) refl
    where
      told : (nat_lt n page_count && is_filled s n) ≡ false
      told =
          sym (read-among (is_filled s) (λ _. false) page_count n)
          ∙ sym (any-number n (listed s page_count))
          ∙ sym (ap (list_any (λ k. k == n)) same-list)
          ∙ sym (any-slot n slots)
          ∙ none

      by_test : (b : Bool) → is_filled s n ≡ b → b ≡ false
      by_test false e = refl
      by_test true e =
          sym e
          ∙ sym (ap (λ t. t && is_filled s n) (lt-ltb n page_count (low-page n (filled-read s n e))))
          ∙ told

  pub pages-are : IsPaged (readable s) (writable s) (page_words s) slots
  pages-are = record {
    below = low-page;
    both = written-read s;
    are_words = words-are s is;
    long = page-long s;
    rise = slots-rise 0 slots (subst (Ascend 0) (sym same-list) (ascend-numbers 0 (listed s page_count) (pages-rise (is_filled s) (λ _. false) page_count)));
    zeros = λ n k none. zero-words s is n k (not-filled n none);
  }

  -- ---- how many they are

  pub slots-few : length slots ≤ length (pages_of (readable s) (writable s) page_count)
  slots-few =
      let a = sym (length-map slots (λ (t : PageSlot). t.page)) ∙ ap length same-list ∙ length-map (listed s page_count) (λ (x : ℕ × Bool). x.0) in
      let b = fewer s page_count in
      omega (arith, a, b)
