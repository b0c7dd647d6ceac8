-- An image's memory, page by page, and its code, address by address.
use Rattle.std.proofs.Common.{◌≡◌, ℕ, ◌+◌, ◌-◌, ◌*◌, ◌/◌, ◌%◌, ◌^◌, ◌<◌, ◌≤◌, Bool, true, false, ◌&&◌, ◌||◌, ◌⊎◌, ◌==◌, if◌then◌else◌, List, [], ◌∷◌, length, get_or, Option, Some, None, refl, sym, ap, ◌∙◌, inl, inr, arith}
use Rattle.std.specs.Prelude.{slice_index}
use Rattle.std.specs.List.{list_any}
use Rattle.std.proofs.lemmas.Bool.{eq-eqb}
use Rattle.std.proofs.lemmas.List.Folds.{list_any_at}
use Rattle.run_definition.specs.Words.{lane_of_word}
use Rattle.elf_definition.specs.declared.range.Range.{Range}
use Rattle.elf_definition.specs.declared.segment.Segment.{Segment}
use Rattle.elf_definition.specs.Segments.{live, is_writable}
use Rattle.elf_definition.specs.Area.{area, range_end, has_address}
use Rattle.elf_definition.specs.Fault.{IsRunsOf}
use Rattle.mips_definition.specs.State.{argument_page}
use Rattle.elf_definition.specs.Pages.{is_on_page, is_segment_page, is_data_page, is_heap_page, is_stack_page, is_readable_page, is_writable_page}
use Rattle.elf_definition.specs.Content.{stored_byte, stored_word, stored_code_word, is_filled_page}
use Rattle.elf_definition.specs.Start.{Source, image_of, start_byte, code_at, readable, writable}
use Rattle.mips_memory.specs.Loading.{with_words}
use Rattle.elf_reader.proofs.PassedLemmas.{last_address}

-- ---- what may be written can be read

data_page : (page : ℕ) (segments : List Segment) → list_any (is_on_page page) segments ≡ false → list_any (λ s. is_writable s && is_on_page page s) segments ≡ false
data_page page [] off = refl
data_page page (s ∷ rest) off = by_tests (is_writable s) (is_on_page page s) (list_any (is_on_page page) rest) (list_any (λ s. is_writable s && is_on_page page s) rest) off (data_page page rest)
  where
    by_tests : (w t a b : Bool) → (t || a) ≡ false → (a ≡ false → b ≡ false) → ((w && t) || b) ≡ false
    by_tests true true a b e f = absurd (cc)
    by_tests true false a b e f = f e
    by_tests false true a b e f = absurd (cc)
    by_tests false false a b e f = f e

writable_page : (segments : List Segment) (heap stack page : ℕ) → is_readable_page segments heap stack page ≡ false → is_writable_page segments heap stack page ≡ false
unfolding is_readable_page is_writable_page is_segment_page is_data_page
writable_page segments heap stack page off =
    by_tests (list_any (is_on_page page) segments) (list_any (λ s. is_writable s && is_on_page page s) segments)
    (is_heap_page segments heap page) (is_stack_page stack page) (page == argument_page / 4096) off (data_page page segments)
  where
    by_tests : (a b h s g : Bool) → (a || h || s || g) ≡ false → (a ≡ false → b ≡ false) → (b || h || s || g) ≡ false
    by_tests true b h s g e f = last b h s g e
      where
        last : (b h s g : Bool) → (true || h || s || g) ≡ false → (b || h || s || g) ≡ false
        last b true true true e = absurd (cc)
        last b true true false e = absurd (cc)
        last b true false true e = absurd (cc)
        last b true false false e = absurd (cc)
        last b false true true e = absurd (cc)
        last b false true false e = absurd (cc)
        last b false false true e = absurd (cc)
        last b false false false e = absurd (cc)
    by_tests false b h s g e f = ap (λ x. x || h || s || g) (f refl) ∙ e

module _ (v : Source) where
  -- a page that cannot be read
  pub no_byte : (a : ℕ) → readable v (a / 4096) ≡ false → (image_of v).memory.byte a ≡ None
  unfolding image_of start_byte
  no_byte a off = ap (λ t. if t then Some (stored_byte v.file (live v.file) a) else None) off

  pub no_writing : (a : ℕ) → readable v (a / 4096) ≡ false → (image_of v).memory.writable a ≡ false
  unfolding image_of
  no_writing a off = writable_page (live v.file) v.heap v.stack (a / 4096) off

  pub same_writing : (a page : ℕ) (w : Bool) → w ≡ writable v page → a / 4096 ≡ page → (image_of v).memory.writable a ≡ w
  unfolding image_of
  same_writing a page w is here = ap (λ n. writable v n) here ∙ sym is

  -- a page that can be read
  there : (a page : ℕ) → readable v page ≡ true → a / 4096 ≡ page → (image_of v).memory.byte a ≡ Some (stored_byte v.file (live v.file) a)
  unfolding image_of start_byte
  there a page on here = ap (λ n. if readable v n then Some (stored_byte v.file (live v.file) a) else None) here ∙ ap (λ t. if t then Some (stored_byte v.file (live v.file) a) else None) on

  pub zeros_are : (page : ℕ) → readable v page ≡ true → is_filled_page v.file (live v.file) page ≡ false
      → ((a : ℕ) → is_filled_page v.file (live v.file) (a / 4096) ≡ false → stored_byte v.file (live v.file) a ≡ 0)
      → (a : ℕ) → a / 4096 ≡ page → (image_of v).memory.byte a ≡ Some 0
  zeros_are page on empty zero a here = there a page on here ∙ ap Some (zero a (ap (is_filled_page v.file (live v.file)) here ∙ empty))

  pub words_are : (page : ℕ) (words : List ℕ) → readable v page ≡ true
      → ((k : ℕ) → k < 1024 → slice_index words k ≡ stored_word v.file (live v.file) (4096 * page + 4 * k))
      → ((a : ℕ) → lane_of_word (stored_word v.file (live v.file) (4 * (a / 4))) (a % 4) ≡ stored_byte v.file (live v.file) a)
      → (a : ℕ) → a / 4096 ≡ page → (image_of v).memory.byte a ≡ Some (lane_of_word (slice_index words (a / 4 % 1024)) (a % 4))
  words_are page words on are lanes a here =
      there a page on here
      ∙ ap Some (sym (lanes a)
      ∙ ap (λ n. lane_of_word (stored_word v.file (live v.file) n) (a % 4)) (place a page here)
      ∙ sym (ap (λ w. lane_of_word w (a % 4)) (are (a / 4 % 1024) (omega arith))))
    where
      place : (a page : ℕ) → a / 4096 ≡ page → 4 * (a / 4) ≡ 4096 * page + 4 * (a / 4 % 1024)
      place a page here = omega arith

  -- ---- the code

  -- an address in the code has a word
  pub has_word : (a : ℕ) → a % 4 ≡ 0 → area v.file a ≡ true → None ≡ (image_of v).code a → ⊥
  unfolding image_of code_at
  has_word a aligned on none =
      let is : (a % 4 == 0 && area v.file a) ≡ true = ap (λ t. t && area v.file a) (eq-eqb (a % 4) 0 aligned) ∙ on in
      let some = ap (λ t. if t then Some (stored_code_word v.file (live v.file) a) else None) is in
      let f : None ≡ Some (stored_code_word v.file (live v.file) a) = none ∙ some in
      cc

  -- the code of all ranges is the image's
  pub all_words : (ranges : List Range) → IsRunsOf (area v.file) ranges → with_words (λ a. None) (image_of v).code (λ a. list_any (has_address a) ranges) ≡ (image_of v).code
  unfolding with_words image_of code_at
  all_words ranges are = λ i a. by_tests (a % 4 == 0) (list_any (has_address a) ranges) (area v.file a) (Some (stored_code_word v.file (live v.file) a)) (are.same a) i
    where
      by_tests : (t l s : Bool) (o : Option ℕ) → s ≡ l → (if t && l then (if t && s then o else None) else None) ≡ (if t && s then o else None)
      by_tests true true s o e = refl
      by_tests true false true o e = absurd (cc)
      by_tests true false false o e = refl
      by_tests false l s o e = refl

module _ (test : ℕ → Bool) (ranges : List Range) (are : IsRunsOf test ranges) (k : ℕ) (d : Range) (within : k < length ranges) where
  -- a range's addresses are in the area
  pub range_inside : (a : ℕ) → has_address a (get_or ranges k d) ≡ true → test a ≡ true
  range_inside a has = are.same a ∙ list_any_at (has_address a) ranges k d within has

  pub range_low : ((a : ℕ) → 2 ^ 31 ≤ a → test a ≡ false) → range_end (get_or ranges k d) ≤ 2 ^ 31
  range_low low =
      elim (split (range_end (get_or ranges k d))) [
        | inl ok ↦ ok
        | inr high ↦ absurd (
            let r = get_or ranges k d in
            let on = range_inside (range_end r - 1) (last_address r.first r.words (are.filled k d within)) in
            let off = low (range_end r - 1) (omega (arith, high)) in
            cc)
      ]
    where
      split : (n : ℕ) → (n ≤ 2 ^ 31) ⊎ (2 ^ 31 < n)
      split n = grind arith
