-- The memory that tables of pages hold.
use Rattle.std.specs.Prelude.{◌≡◌, ℕ, ◌/◌, ◌%◌, ◌<◌, Bool, true, if◌then◌else◌, List, slice_index_or, Option, Some, None, is_some}
use Rattle.std.specs.List.{All}
use Rattle.run_definition.specs.Words.{IsWord, lane_of_word}
use Rattle.run_definition.specs.Memory.{Memory}
use Rattle.jvm_definition.specs.Program.{Program}
use Rattle.jvm_definition.specs.Values.{ints, Heap}
use Rattle.emit_layout.specs.FieldNumbers.{page_count}
use Rattle.emit_loading.specs.declared.page_slot.PageSlot.{PageSlot}
use Rattle.emit_simulation_laws.specs.Match.{HoldsMemory}
use Rattle.emit_loading_laws.specs.Filled.{AreApart, HasText, RiseFrom, filled, words_for}
use Rattle.emit_loading_laws.specs.MadePages.{HasTables, PagesRise, is_among, is_written_among, made, readable_after, writable_after}

-- Tables have the pages that can be read and those that can be written, and each page is an array of its own, of its 1,024 words.
pub record HoldsWords (heap : Heap) (readable writable : ℕ)
    (readable_pages writable_pages : ℕ → Option ℕ) (reads writes : ℕ → Bool) (words : ℕ → ℕ → ℕ)
    : Type 0 where
  pub tables : HasTables heap readable writable readable_pages writable_pages
  pub there : (n p : ℕ) → readable_pages n ≡ Some p → heap.array_at p ≡ Some (ints 1024 (words n))
  pub are_words : (n i : ℕ) → IsWord (words n i)
  pub pages_apart : AreApart readable_pages
  pub shared : (n p : ℕ) → writable_pages n ≡ Some p → readable_pages n ≡ Some p
  pub read : (n : ℕ) → is_some (readable_pages n) ≡ reads n
  pub written : (n : ℕ) → is_some (writable_pages n) ≡ writes n
  pub below : (n : ℕ) → reads n ≡ true → n < page_count

-- The memory of pages that can be read and that can be written, by the words of each page. The byte of the lowest address is the most
-- significant one of a word.
abbrev pub memory_of_pages : (reads writes : ℕ → Bool) → (ℕ → ℕ → ℕ) → Memory
memory_of_pages reads writes words = record {
  byte = λ a. if reads (a / 4096) then Some (lane_of_word (words (a / 4096) (a / 4 % 1024)) (a % 4))
      else None;
  writable = λ a. writes (a / 4096);
}

-- ---- the laws

-- Pages of a list that were made are pages of zeros.
abbrev pub MadePagesAreZero : Type 0
MadePagesAreZero =
    (readable writable : ℕ) (xs : List (ℕ × Bool)) (heap : Heap)
    → HasTables heap readable writable (λ _. None) (λ _. None)
    → PagesRise 0 xs → ((n : ℕ) → is_among xs n ≡ true → n < page_count)
    → HoldsWords (made readable writable heap xs) readable writable
    (readable_after (λ _. None) heap.used xs) (writable_after (λ _. None) heap.used xs)
    (is_among xs) (is_written_among xs) (λ n i. 0)

-- Pages of a class that were filled have the words of their texts.
abbrev pub FilledPagesHaveTheirWords : Type 0
FilledPagesHaveTheirWords =
    (program : Program) (class : ℕ) (given : ℕ → List ℕ) (slots : List PageSlot) (heap : Heap)
    (readable writable : ℕ) (readable_pages writable_pages : ℕ → Option ℕ)
    (reads writes : ℕ → Bool) (words : ℕ → ℕ → ℕ)
    → All (HasText program class given) slots → RiseFrom 0 slots
    → HoldsWords heap readable writable readable_pages writable_pages reads writes words
    → HoldsWords (filled readable_pages given heap slots) readable writable readable_pages
    writable_pages reads writes (λ n i. slice_index_or (words_for given slots n) i (words n i))

-- Pages of their words hold the memory of these.
abbrev pub PagesHoldMemory : Type 0
PagesHoldMemory =
    (heap : Heap) (readable writable : ℕ) (readable_pages writable_pages : ℕ → Option ℕ)
    (reads writes : ℕ → Bool) (words : ℕ → ℕ → ℕ)
    → HoldsWords heap readable writable readable_pages writable_pages reads writes words
    → HoldsMemory heap readable writable (memory_of_pages reads writes words)
