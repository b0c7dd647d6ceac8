-- Which bytes may be written, by the table of writable pages.
use Rattle.std.proofs.Common.{◌≡◌, ℕ, ◌/◌, ◌^◌, ◌<◌, ◌≤◌, nat_lt, Bool, true, false, if◌then◌else◌, ◌⊎◌, inl, inr, Option, Some, None, is_some, refl, ap, sym, ◌∙◌, arith}
use Rattle.std.proofs.lemmas.Bool.{lt-ltb, le-ltb, cases_lt}
use Rattle.run_definition.specs.Memory.{Memory}
use Rattle.jvm_definition.specs.Values.{Heap}
use Rattle.emit_layout.specs.FieldNumbers.{page_count}
use Rattle.emit_simulation_laws.specs.Match.{HoldsMemory}
use Rattle.emit_simulation_laws.proofs.MatchedPages.{page_at, byte_in, byte_word, byte-by-table, word-read}

-- where no page is, no byte is
nothing : (t : Bool) → is_some {T = ℕ} (if t then None else None) ≡ false
nothing true = refl
nothing false = refl

module _ (heap : Heap) (readable writable : ℕ) (memory : Memory) (h : HoldsMemory heap readable writable memory) (a : ℕ) where
  writable-is : memory.writable a ≡ is_some (byte_in heap (page_at h.writable_pages a) a)
  writable-is =
      sym (ap (λ (m : Memory). m.writable a) h.reads) ∙ ap is_some (byte-by-table heap writable a h.writable_pages h.writable_there)

  in-page : (p : ℕ) → a / 4096 < page_count → h.writable_pages (a / 4096) ≡ Some p → is_some (byte_in heap (Some p) a) ≡ true
  in-page p within here =
      let page = h.whole (a / 4096) p (h.shared (a / 4096) p here) in
      let below : a < 2 ^ 32 = omega arith in
      ap (λ o. is_some (byte_word p o a)) page.there ∙ ap is_some (word-read p a page.words below)

  -- the page that is found
  page-is : (o : Option ℕ) → a / 4096 < page_count → h.writable_pages (a / 4096) ≡ o → page_at h.writable_pages a ≡ o
  page-is o within here =
      ap (λ b. if b then h.writable_pages (a / 4096) else None) (lt-ltb (a / 4096) page_count within) ∙ here

  pub may-write : (p : ℕ) → a / 4096 < page_count → h.writable_pages (a / 4096) ≡ Some p → memory.writable a ≡ true
  may-write p within here = writable-is ∙ ap (λ o. is_some (byte_in heap o a)) (page-is (Some p) within here) ∙ in-page p within here

  pub no-page : a / 4096 < page_count → h.writable_pages (a / 4096) ≡ None → memory.writable a ≡ false
  no-page within none = writable-is ∙ ap (λ o. is_some (byte_in heap o a)) (page-is None within none) ∙ nothing (nat_lt a (2 ^ 32))

  pub past-pages : page_count ≤ a / 4096 → memory.writable a ≡ false
  past-pages high =
      writable-is
      ∙ ap (λ b. is_some (byte_in heap (if b then h.writable_pages (a / 4096) else None) a)) (le-ltb (a / 4096) page_count high)
      ∙ nothing (nat_lt a (2 ^ 32))

  -- where it is, or that it is not
  abbrev pub Found : Type 0
  Found = (p : ℕ) × (a / 4096 < page_count) × (h.writable_pages (a / 4096) ≡ Some p)

  abbrev pub Missing : Type 0
  Missing = (page_count ≤ a / 4096) ⊎ ((a / 4096 < page_count) × (h.writable_pages (a / 4096) ≡ None))

  by-page : a / 4096 < page_count → (o : Option ℕ) → h.writable_pages (a / 4096) ≡ o → Found ⊎ Missing
  by-page within None e = inr (inr (within, e))
  by-page within (Some p) e = inl (p, within, e)

  either : Found ⊎ Missing
  either = by_cases (cases_lt (a / 4096) page_count)
    where
      by_cases : (a / 4096 < page_count) ⊎ (page_count ≤ a / 4096) → Found ⊎ Missing
      by_cases (inl within) = by-page within (h.writable_pages (a / 4096)) refl
      by_cases (inr high) = inr (inl high)

  missing-is : Missing → memory.writable a ≡ false
  missing-is (inl high) = past-pages high
  missing-is (inr none) = no-page none.0 none.1

  pub found : memory.writable a ≡ true → Found
  found may = by_cases either
    where
      by_cases : Found ⊎ Missing → Found
      by_cases (inl f) = f
      by_cases (inr m) = absurd (differ (sym may ∙ missing-is m))
        where
          differ : true ≡ false → ⊥
          differ e = cc

  pub missing : memory.writable a ≡ false → Missing
  missing may_not = by_cases either
    where
      by_cases : Found ⊎ Missing → Missing
      by_cases (inl f) = absurd (differ (sym (may-write f.0 f.1 f.2) ∙ may_not))
        where
          differ : true ≡ false → ⊥
          differ e = cc
      by_cases (inr m) = m

-- the bytes of a word may be written or not as one
pub same-word : (heap : Heap) (readable writable : ℕ) (memory : Memory) (h : HoldsMemory heap readable writable memory) (a x : ℕ) → x / 4 ≡ a / 4 → memory.writable x ≡ memory.writable a
same-word heap readable writable memory h a x same = by_test (memory.writable a) refl
  where
    page : x / 4096 ≡ a / 4096
    page = omega arith

    by_missing : Missing heap readable writable memory h a → memory.writable x ≡ false
    by_missing (inl high) = past-pages heap readable writable memory h x (omega (arith, high, page))
    by_missing (inr none) = no-page heap readable writable memory h x (omega (arith, none.0, page)) (ap h.writable_pages page ∙ none.1)

    by_test : (b : Bool) → memory.writable a ≡ b → memory.writable x ≡ b
    by_test true e =
        let f = found heap readable writable memory h a e in
        may-write heap readable writable memory h x f.0 (omega (arith, f.1, page)) (ap h.writable_pages page ∙ f.2)
    by_test false e = by_missing (missing heap readable writable memory h a e)
