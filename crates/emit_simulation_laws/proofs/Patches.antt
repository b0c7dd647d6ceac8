-- Bytes that are put through the writable pages.
use Rattle.std.proofs.Common.{◌≡◌, ℕ, zero, suc, ◌+◌, ◌/◌, ◌%◌, ◌^◌, ◌==◌, ◌<◌, nat_lt, ◌&&◌, Bool, true, false, if◌then◌else◌, ◌⊎◌, inl, inr, List, [], ◌∷◌, length, Option, Some, None, is_some, refl, ap, subst, sym, ◌∙◌, arith}
use Rattle.std.specs.List.{list_all}
use Rattle.std.proofs.lemmas.Bool.{lt-ltb, eq-eqb, ne_eqb, cases_eq, ltb-true, and_parts}
use Rattle.run_definition.specs.Words.{IsWord, lane_of_word, word_with_lane}
use Rattle.nv_words.proofs.LaneLemmas.{lane_of_word-with_lane, IsWord-with_lane}
use Rattle.run_definition.specs.Memory.{Memory, can_write, patched}
use Rattle.run_definition.specs.Question.{room_at}
use Rattle.run_definition.specs.Answer.{fits_room, room_place}
use Rattle.nv_events.proofs.Rooms.{room_holds}
use Rattle.mips_definition.specs.Memory.{with_byte}
use Rattle.jvm_definition.specs.Values.{Heap, with_int}
use Rattle.jvm_definition.specs.HostMemory as host
use Rattle.jvm_definition.specs.HostMemory.{HostMemory, Cell, cell_of, page_in, byte_of, memory_of, with_cell}
use Rattle.emit_layout.specs.FieldNumbers.{page_count}
use Rattle.emit_simulation_laws.specs.Match.{HoldsMemory, IsPage, host_memory}
use Rattle.emit_simulation_laws.specs.Memory.{with_word_at}
use Rattle.emit_simulation_laws.proofs.MatchedPages.{byte_in, byte-by-table}
use Rattle.emit_simulation_laws.proofs.ReadLemmas.{lane-read}
use Rattle.emit_simulation_laws.proofs.Stores.{HoldsMemory-word}

-- ---- the word of a byte that may be written

-- where there is a byte, there is a page
page-there : (a : ℕ) (heap : Heap) (b : Bool) (o : Option ℕ) → is_some (byte_in heap (if b then o else None) a) ≡ true → (p : ℕ) × (b ≡ true) × (o ≡ Some p)
page-there a heap true (Some p) e = (p, refl, refl)
page-there a heap true None e = absurd (nothing (nat_lt a (2 ^ 32)) e)
  where
    nothing : (t : Bool) → is_some {T = ℕ} (if t then None else None) ≡ true → ⊥
    nothing true e = cc
    nothing false e = cc
page-there a heap false o e = absurd (nothing (nat_lt a (2 ^ 32)) e)
  where
    nothing : (t : Bool) → is_some {T = ℕ} (if t then None else None) ≡ true → ⊥
    nothing true e = cc
    nothing false e = cc

module _ (heap : Heap) (readable writable : ℕ) (memory : Memory) (h : HoldsMemory heap readable writable memory) (a : ℕ) (may : memory.writable a ≡ true) where
  page : (p : ℕ) × (nat_lt (a / 4096) page_count ≡ true) × (h.writable_pages (a / 4096) ≡ Some p)
  page =
      page-there a heap (nat_lt (a / 4096) page_count) (h.writable_pages (a / 4096))
      (ap is_some (sym (byte-by-table heap writable a h.writable_pages h.writable_there)) ∙ ap (λ (m : Memory). m.writable a) h.reads ∙ may)

  in_table : a / 4096 < page_count
  in_table = ltb-true (a / 4096) page_count page.1

  is_page : IsPage heap page.0
  is_page = h.whole (a / 4096) page.0 (h.shared (a / 4096) page.0 page.2)

  word : ℕ
  word = is_page.words (a / 4 % 1024)

  -- the cell that a byte is put into
  cell-is : cell_of heap (Some writable) a ≡ Some (record { place = page.0; index = a / 4 % 1024; word = word })
  unfolding word
  cell-is =
      let within : a / 4 % 1024 < 1024 = omega arith in
      simp (h.writable_there, page.1, page.2, is_page.there, lt-ltb (a / 4 % 1024) 1024 within) refl

  -- the other bytes of the word
  lane-of : (x : ℕ) → x / 4 ≡ a / 4 → memory.byte x ≡ Some (lane_of_word word (x % 4))
  unfolding word is_page
  lane-of x same =
      lane-read heap readable writable memory h a page.0 in_table (h.shared (a / 4096) page.0 page.2) x same

  put-byte : (b : ℕ) → b < 256 → (x : ℕ) → (with_word_at memory (a / 4) (word_with_lane word (a % 4) b)).byte x ≡ (with_byte memory a b).byte x
  unfolding word
  put-byte b byte x = by_word (cases_eq (x / 4) (a / 4))
    where
      v : ℕ
      v = word_with_lane word (a % 4) b

      lane : lane_of_word v (x % 4) ≡ (if x % 4 == a % 4 then b else lane_of_word word (x % 4))
      lane = lane_of_word-with_lane word (a % 4) b (x % 4) (is_page.are_words (a / 4 % 1024)) (omega arith) byte (omega arith)

      by_byte : x / 4 ≡ a / 4 → (x ≡ a) ⊎ (x ≡ a → ⊥) → Some (lane_of_word v (x % 4)) ≡ (if x == a then Some b else memory.byte x)
      by_byte same (inl e) =
          ap Some (lane ∙ ap (λ t. if t then b else lane_of_word word (x % 4)) (eq-eqb (x % 4) (a % 4) (ap (λ n. n % 4) e)))
          ∙ sym (ap (λ t. if t then Some b else memory.byte x) (eq-eqb x a e))
      by_byte same (inr ne) =
          ap Some (lane ∙ ap (λ t. if t then b else lane_of_word word (x % 4)) (ne_eqb (x % 4) (a % 4) (λ e. ne (omega arith))))
          ∙ sym (lane-of x same)
          ∙ sym (ap (λ t. if t then Some b else memory.byte x) (ne_eqb x a ne))

      by_word : (x / 4 ≡ a / 4) ⊎ (x / 4 ≡ a / 4 → ⊥) → (if x / 4 == a / 4 then Some (lane_of_word v (x % 4)) else memory.byte x) ≡ (if x == a then Some b else memory.byte x)
      by_word (inl same) =
          ap (λ t. if t then Some (lane_of_word v (x % 4)) else memory.byte x) (eq-eqb (x / 4) (a / 4) same)
          ∙ by_byte same (cases_eq x a)
      by_word (inr ne) =
          ap (λ t. if t then Some (lane_of_word v (x % 4)) else memory.byte x) (ne_eqb (x / 4) (a / 4) ne)
          ∙ sym (ap (λ t. if t then Some b else memory.byte x) (ne_eqb x a (λ e. ne (ap (λ n. n / 4) e))))

  pub HoldsMemory-byte : (b : ℕ) → b < 256 → HoldsMemory (host.with_host_byte (host_memory heap readable writable) a b).heap readable writable (with_byte memory a b)
  unfolding word
  HoldsMemory-byte b byte =
      let v = word_with_lane word (a % 4) b in
      let is_word : IsWord v = IsWord-with_lane word (a % 4) b (is_page.are_words (a / 4 % 1024)) (omega arith) byte in
      let number : a / 4 / 1024 ≡ a / 4096 = omega arith in
      let stored = HoldsMemory-word heap readable writable memory h (a / 4) page.0 v (omega (arith, in_table)) (ap h.writable_pages number ∙ page.2) is_word in
      let heaps : with_int heap page.0 (a / 4 % 1024) v ≡ with_cell heap (cell_of heap (Some writable) a) (a % 4) b = sym (ap (λ c. with_cell heap c (a % 4) b) cell-is) in
      let bytes : with_word_at memory (a / 4) v ≡ with_byte memory a b = λ j. record memory { byte = λ x. put-byte b byte x j } in
      subst (λ (x : Heap). HoldsMemory x readable writable (with_byte memory a b)) heaps
      (subst (λ (m : Memory). HoldsMemory (with_int heap page.0 (a / 4 % 1024) v) readable writable m) bytes stored)

-- ---- bytes put one after the other

same_can_write : (m : Memory) (a b x n : ℕ) → can_write (with_byte m a b) x n ≡ can_write m x n
same_can_write m a b x zero = refl
same_can_write m a b x (suc n) = ap (λ t. m.writable x && t) (same_can_write m a b (x + 1) n)

pub HoldsMemory-patched : (patch : List ℕ) (heap : Heap) (readable writable : ℕ) (memory : Memory) (a : ℕ) → HoldsMemory heap readable writable memory → list_all (λ x. nat_lt x 256) patch ≡ true → can_write memory a (length patch) ≡ true → HoldsMemory (patched host.with_host_byte (host_memory heap readable writable) a patch).heap readable writable (patched with_byte memory a patch)
HoldsMemory-patched [] heap readable writable memory a h bytes may = h
HoldsMemory-patched (b ∷ bs) heap readable writable memory a h bytes may =
    let byte = and_parts (nat_lt b 256) (list_all (λ x. nat_lt x 256) bs) bytes in
    let here = and_parts (memory.writable a) (can_write memory (a + 1) (length bs)) may in
    HoldsMemory-patched bs (host.with_host_byte (host_memory heap readable writable) a b).heap readable writable (with_byte memory a b) (a + 1)
    (HoldsMemory-byte heap readable writable memory h a here.0 b (ltb-true b 256 byte.0))
    byte.1 (same_can_write memory a b (a + 1) (length bs) ∙ here.1)

-- ---- the patch of an answer that fits

pub HoldsMemory-answered : (room : Option (ℕ × ℕ)) (patch : List ℕ) (heap : Heap) (readable writable : ℕ) (memory : Memory) → HoldsMemory heap readable writable memory → fits_room patch (room_at memory room) ≡ true → HoldsMemory (patched host.with_host_byte (host_memory heap readable writable) (room_place (room_at memory room)) patch).heap readable writable (patched with_byte memory (room_place (room_at memory room)) patch)
HoldsMemory-answered room [] heap readable writable memory h fit = h
HoldsMemory-answered None (b ∷ bs) heap readable writable memory h fit = cc
HoldsMemory-answered (Some place) (b ∷ bs) heap readable writable memory h fit =
    let holds = room_holds memory b bs place.0 place.1 (can_write memory place.0 place.1) refl fit in
    HoldsMemory-patched (b ∷ bs) heap readable writable memory (room_place (room_at memory (Some place))) h holds.1 holds.0
