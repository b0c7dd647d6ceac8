-- What is read through the tables of pages.
use Rattle.std.proofs.Common.{◌≡◌, ℕ, ◌/◌, ◌%◌, ◌^◌, ◌<◌, ◌≤◌, nat_lt, Bool, true, false, if◌then◌else◌, Option, Some, None, refl, ap, sym, ◌∙◌, arith}
use Rattle.std.specs.Option.{option_or}
use Rattle.std.proofs.lemmas.Bool.{lt-ltb, le-ltb}
use Rattle.run_definition.specs.Words.{lane_of_word}
use Rattle.run_definition.specs.Memory.{Memory}
use Rattle.jvm_definition.specs.Values.{Heap}
use Rattle.jvm_definition.specs.HostMemory.{byte_of}
use Rattle.emit_layout.specs.FieldNumbers.{page_count}
use Rattle.emit_simulation_laws.specs.Match.{HoldsMemory}
use Rattle.emit_simulation_laws.proofs.MatchedPages.{page_at, byte_in, byte_word, byte-by-table, word-read}

nothing-in : (t : Bool) → ◌≡◌ {A = Option ℕ} (if t then None else None) None
nothing-in true = refl
nothing-in false = refl

module _ (heap : Heap) (readable writable : ℕ) (memory : Memory) (h : HoldsMemory heap readable writable memory) (a : ℕ) where
  -- the bytes of a word, where its page can be read
  pub lane-read : (p : ℕ) → a / 4096 < page_count → (page : h.readable_pages (a / 4096) ≡ Some p) → (x : ℕ) → x / 4 ≡ a / 4 → memory.byte x ≡ Some (lane_of_word ((h.whole (a / 4096) p page).words (a / 4 % 1024)) (x % 4))
  lane-read p within page x same =
      let same_page : x / 4096 ≡ a / 4096 = omega arith in
      let is_page = h.whole (a / 4096) p page in
      let here : page_at h.readable_pages x ≡ Some p =
      ap (λ n. if nat_lt n page_count then h.readable_pages n else None) same_page
      ∙ ap (λ b. if b then h.readable_pages (a / 4096) else None) (lt-ltb (a / 4096) page_count within)
      ∙ page in
      let below : x < 2 ^ 32 = omega arith in
      sym (ap (λ (m : Memory). m.byte x) h.reads)
      ∙ ap (λ o. option_or o (byte_of heap (Some writable) x)) (byte-by-table heap readable x h.readable_pages h.readable_there ∙ ap (λ o. byte_in heap o x) here ∙ ap (λ o. byte_word p o x) is_page.there ∙ word-read p x is_page.words below)
      ∙ ap (λ n. Some (lane_of_word (is_page.words (n % 1024)) (x % 4))) same

  -- a page that cannot be read cannot be written
  no_writable : (o : Option ℕ) → h.writable_pages (a / 4096) ≡ o → h.readable_pages (a / 4096) ≡ None → o ≡ None
  no_writable None e none = refl
  no_writable (Some p) e none = absurd (differ (sym none ∙ h.shared (a / 4096) p e))
    where
      differ : None ≡ Some p → ⊥
      differ e = cc

  neither-read : page_at h.readable_pages a ≡ None → page_at h.writable_pages a ≡ None → memory.byte a ≡ None
  neither-read first second =
      sym (ap (λ (m : Memory). m.byte a) h.reads)
      ∙ ap (λ o. option_or o (byte_of heap (Some writable) a)) (byte-by-table heap readable a h.readable_pages h.readable_there ∙ ap (λ o. byte_in heap o a) first ∙ nothing-in (nat_lt a (2 ^ 32)))
      ∙ byte-by-table heap writable a h.writable_pages h.writable_there
      ∙ ap (λ o. byte_in heap o a) second
      ∙ nothing-in (nat_lt a (2 ^ 32))

  pub unread : h.readable_pages (a / 4096) ≡ None → memory.byte a ≡ None
  unread none =
      neither-read (inside (nat_lt (a / 4096) page_count) (h.readable_pages (a / 4096)) none) (inside (nat_lt (a / 4096) page_count) (h.writable_pages (a / 4096)) (no_writable (h.writable_pages (a / 4096)) refl none))
    where
      inside : (b : Bool) (o : Option ℕ) → o ≡ None → (if b then o else None) ≡ None
      inside true o e = e
      inside false o e = refl

  pub high-unread : page_count ≤ a / 4096 → memory.byte a ≡ None
  high-unread high =
      let past = le-ltb (a / 4096) page_count high in
      neither-read (ap (λ b. if b then h.readable_pages (a / 4096) else None) past) (ap (λ b. if b then h.writable_pages (a / 4096) else None) past)
