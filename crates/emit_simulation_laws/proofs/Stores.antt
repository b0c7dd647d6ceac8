-- Stores of words, and bytes that are put, keep the guest's memory held.
use Rattle.std.proofs.Common.{◌≡◌, ℕ, ◌+◌, ◌/◌, ◌%◌, ◌==◌, ◌<◌, nat_lt, Bool, true, false, if◌then◌else◌, ◌⊎◌, inl, inr, Option, Some, None, is_some, refl, ap, sym, ◌∙◌, arith}
use Rattle.std.specs.Option.{option_or}
use Rattle.std.proofs.lemmas.Bool.{lt-ltb, eq-eqb, ne_eqb, cases_eq}
use Rattle.run_definition.specs.Words.{IsWord, lane_of_word}
use Rattle.run_definition.specs.declared.order.Order.TheVariants.{Big}
use Rattle.nv_words.proofs.LaneLemmas.{below_four}
use Rattle.run_definition.specs.Memory.{Memory}
use Rattle.mips_definition.specs.Memory.{with_word}
use Rattle.jvm_definition.specs.Values.{Array, ints, pages, Heap, with_int, set_int}
use Rattle.jvm_definition.specs.HostMemory.{byte_of}
use Rattle.emit_layout.specs.FieldNumbers.{page_count}
use Rattle.emit_simulation_laws.specs.Match.{HoldsMemory, IsPage}
use Rattle.emit_simulation_laws.specs.Memory.{with_word_at}
use Rattle.emit_simulation_laws.proofs.MatchedPages.{page_at, byte_in, byte-by-table, Changed, changed-page}

-- ---- one word

either-or : (here : Bool) (x : ℕ) (a b : Option ℕ) → option_or (if here then Some x else a) (if here then Some x else b) ≡ (if here then Some x else option_or a b)
either-or true x a b = refl
either-or false x a b = refl

-- the page of a word, where it is read
page-is : (b : Bool) (o : Option ℕ) (p : ℕ) → (if b then o else None) ≡ Some p → (b ≡ true) × (o ≡ Some p)
page-is true o p e = (refl, e)
page-is false o p e = cc

module _ (heap : Heap) (readable writable : ℕ) (memory : Memory) (h : HoldsMemory heap readable writable memory) (k p v : ℕ) (in_table : k / 1024 < page_count) (page : h.writable_pages (k / 1024) ≡ Some p) (is_word : IsWord v) where
  changed : Heap
  changed = with_int heap p (k % 1024) v

  page_of_word : IsPage heap p
  page_of_word = h.whole (k / 1024) p (h.shared (k / 1024) p page)

  other-array : (q : ℕ) (o : Array) → heap.array_at q ≡ Some o → (q ≡ p → ⊥) → changed.array_at q ≡ Some o
  unfolding changed
  other-array q o there ne =
      ap (λ b. if b then set_int (heap.array_at q) (k % 1024) v else heap.array_at q) (ne_eqb q p ne) ∙ there

  not_a_page : (t : ℕ) (f : ℕ → Option ℕ) → heap.array_at t ≡ Some (pages page_count f) → t ≡ p → ⊥
  not_a_page t f there e =
      differ (sym there ∙ ap heap.array_at e ∙ page_of_word.there)
    where
      differ : Some (pages page_count f) ≡ Some (ints 1024 page_of_word.words) → ⊥
      differ e = cc

  -- through a table whose pages are the readable ones
  by-table : (f : ℕ → Option ℕ) → ((n q : ℕ) → f n ≡ Some q → h.readable_pages n ≡ Some q) → f (k / 1024) ≡ Some p → (a : ℕ) → Changed (byte_in heap (page_at f a) a) (byte_in changed (page_at f a) a) (a / 4 == k) (lane_of_word v (a % 4))
  unfolding changed
  by-table f known here a =
      changed-page heap p k v a page_of_word.words page_of_word.there in_table (page_at f a)
      (λ e. h.apart (a / 4096) (k / 1024) p (known (a / 4096) p (page-is (nat_lt (a / 4096) page_count) (f (a / 4096)) p e).1) (h.shared (k / 1024) p page))
      (λ e. let same : a / 4096 ≡ k / 1024 = omega arith in
      ap (λ b. if b then f (a / 4096) else None) (lt-ltb (a / 4096) page_count (omega arith)) ∙ ap f same ∙ here)

  readable_kept : changed.array_at readable ≡ Some (pages page_count h.readable_pages)
  readable_kept = other-array readable (pages page_count h.readable_pages) h.readable_there (not_a_page readable h.readable_pages h.readable_there)

  writable_kept : changed.array_at writable ≡ Some (pages page_count h.writable_pages)
  writable_kept = other-array writable (pages page_count h.writable_pages) h.writable_there (not_a_page writable h.writable_pages h.writable_there)

  first : (a : ℕ) → Changed (byte_of heap (Some readable) a) (byte_of changed (Some readable) a) (a / 4 == k) (lane_of_word v (a % 4))
  first a =
      let old = byte-by-table heap readable a h.readable_pages h.readable_there in
      let new = byte-by-table changed readable a h.readable_pages readable_kept in
      let c = by-table h.readable_pages (λ n q e. e) (h.shared (k / 1024) p page) a in
      record {
        byte = new ∙ c.byte ∙ ap (λ o. if a / 4 == k then Some (lane_of_word v (a % 4)) else o) (sym old);
        still = ap is_some new ∙ c.still ∙ ap is_some (sym old);
      }

  second : (a : ℕ) → Changed (byte_of heap (Some writable) a) (byte_of changed (Some writable) a) (a / 4 == k) (lane_of_word v (a % 4))
  second a =
      let old = byte-by-table heap writable a h.writable_pages h.writable_there in
      let new = byte-by-table changed writable a h.writable_pages writable_kept in
      let c = by-table h.writable_pages h.shared page a in
      record {
        byte = new ∙ c.byte ∙ ap (λ o. if a / 4 == k then Some (lane_of_word v (a % 4)) else o) (sym old);
        still = ap is_some new ∙ c.still ∙ ap is_some (sym old);
      }

  bytes-are : (a : ℕ) → option_or (byte_of changed (Some readable) a) (byte_of changed (Some writable) a) ≡ (with_word_at memory k v).byte a
  bytes-are a =
      ap (λ o. option_or o (byte_of changed (Some writable) a)) (first a).byte
      ∙ ap (option_or (if a / 4 == k then Some (lane_of_word v (a % 4)) else byte_of heap (Some readable) a)) (second a).byte
      ∙ either-or (a / 4 == k) (lane_of_word v (a % 4)) (byte_of heap (Some readable) a) (byte_of heap (Some writable) a)
      ∙ ap (λ (m : Memory). if a / 4 == k then Some (lane_of_word v (a % 4)) else m.byte a) h.reads

  writes-are : (a : ℕ) → is_some (byte_of changed (Some writable) a) ≡ memory.writable a
  writes-are a = (second a).still ∙ ap (λ (m : Memory). m.writable a) h.reads

  page-kept : (q : ℕ) → IsPage heap q → IsPage changed q
  unfolding changed
  page-kept q is = by_cases (cases_eq q p)
    where
      either : (b : Bool) (w : ℕ) → IsWord w → IsWord (if b then v else w)
      either true w hw = is_word
      either false w hw = hw

      by_cases : (q ≡ p) ⊎ (q ≡ p → ⊥) → IsPage changed q
      by_cases (inl e) = record {
        words = λ i. if i == k % 1024 then v else is.words i;
        there = ap (λ b. if b then set_int (heap.array_at q) (k % 1024) v else heap.array_at q) (eq-eqb q p e) ∙ ap (λ o. set_int o (k % 1024) v) is.there;
        are_words = λ i. either (i == k % 1024) (is.words i) (is.are_words i);
      }
      by_cases (inr ne) = record {
        words = is.words;
        there = other-array q (ints 1024 is.words) is.there ne;
        are_words = is.are_words;
      }

  pub HoldsMemory-word : HoldsMemory (with_int heap p (k % 1024) v) readable writable (with_word_at memory k v)
  unfolding changed
  HoldsMemory-word = record {
    readable_pages = h.readable_pages;
    writable_pages = h.writable_pages;
    readable_there = readable_kept;
    writable_there = writable_kept;
    whole = λ n q e. page-kept q (h.whole n q e);
    apart = h.apart;
    shared = h.shared;
    reads = λ j. record { byte = λ a. bytes-are a j; writable = λ a. writes-are a j };
  }

-- ---- SW

-- a word that the guest stores at a multiple of 4 is the word there
pub with_word-at : (m : Memory) (a w : ℕ) → a % 4 ≡ 0 → with_word Big m a w ≡ with_word_at m (a / 4) w
with_word-at m a w aligned = λ i. record m { byte = λ x. byte-is x i }
  where
    inside : (x : ℕ) (j : ℕ) → j < 4 → x ≡ a + j → (with_word Big m a w).byte x ≡ Some (lane_of_word w j)
    inside x j below is =
        ap (with_word Big m a w).byte is
        ∙ below_four (λ j. (with_word Big m a w).byte (a + j) ≡ Some (lane_of_word w j))
        (simp (ne_eqb (a + 0) (a + 3) (λ e. omega arith), ne_eqb (a + 0) (a + 2) (λ e. omega arith), ne_eqb (a + 0) (a + 1) (λ e. omega arith), eq-eqb (a + 0) a (omega arith)) refl)
        (simp (ne_eqb (a + 1) (a + 3) (λ e. omega arith), ne_eqb (a + 1) (a + 2) (λ e. omega arith), eq-eqb (a + 1) (a + 1) refl) refl)
        (simp (ne_eqb (a + 2) (a + 3) (λ e. omega arith), eq-eqb (a + 2) (a + 2) refl) refl)
        (simp (eq-eqb (a + 3) (a + 3) refl) refl) j below

    outside : (x : ℕ) → (x / 4 ≡ a / 4 → ⊥) → (with_word Big m a w).byte x ≡ m.byte x
    outside x ne =
        simp (ne_eqb x (a + 3) (λ e. ne (omega arith)), ne_eqb x (a + 2) (λ e. ne (omega arith)), ne_eqb x (a + 1) (λ e. ne (omega arith)), ne_eqb x a (λ e. ne (omega arith))) refl

    by_word : (x : ℕ) → (x / 4 ≡ a / 4) ⊎ (x / 4 ≡ a / 4 → ⊥) → (with_word Big m a w).byte x ≡ (if x / 4 == a / 4 then Some (lane_of_word w (x % 4)) else m.byte x)
    by_word x (inl same) =
        inside x (x % 4) (omega arith) (omega arith)
        ∙ sym (ap (λ b. if b then Some (lane_of_word w (x % 4)) else m.byte x) (eq-eqb (x / 4) (a / 4) same))
    by_word x (inr ne) =
        outside x ne
        ∙ sym (ap (λ b. if b then Some (lane_of_word w (x % 4)) else m.byte x) (ne_eqb (x / 4) (a / 4) ne))

    byte-is : (x : ℕ) → (with_word Big m a w).byte x ≡ (with_word_at m (a / 4) w).byte x
    byte-is x = by_word x (cases_eq (x / 4) (a / 4))
