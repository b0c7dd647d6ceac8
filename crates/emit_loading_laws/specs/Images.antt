-- Programs whose memory is pages of words.
use Rattle.std.specs.Prelude.{◌≡◌, ℕ, ◌*◌, ◌/◌, ◌%◌, ◌≤◌, false, List, length, map}
use Rattle.run_definition.specs.Words.{lane_of_word}
use Rattle.elf_definition.specs.Segments.{live}
use Rattle.elf_definition.specs.Start.{Source, image_of, readable, writable}
use Rattle.elf_definition.specs.Content.{stored_byte, stored_word, is_filled_page}
use Rattle.elf_image_parts.specs.Pages.{Page, filled_below, page_words}
use Rattle.elf_image_parts.specs.Runs.{pages_of}
use Rattle.emit_layout.specs.FieldNumbers.{page_count}
use Rattle.emit_loading.specs.declared.page_slot.PageSlot.{PageSlot}
use Rattle.emit_loading_laws.specs.Loaded.{IsPaged, paged}

-- The words of a program have its bytes, pages that are not filled are zero, and no page lies at address 80000000 or above. Each image is so.
pub record IsWhole (s : Source) : Type 0 where
  pub lanes : (at : ℕ) → lane_of_word (stored_word s.file (live s.file) (4 * (at / 4))) (at % 4)
      ≡ stored_byte s.file (live s.file) at
  pub zeros : (at : ℕ) → is_filled_page s.file (live s.file) (at / 4096) ≡ false
      → stored_byte s.file (live s.file) at ≡ 0
  pub low : (page : ℕ) → page_count ≤ page → readable s page ≡ false

-- Slots have the pages of a program that are not all zero, in order.
abbrev pub HaveFilledPages : Source → List PageSlot → Type 0
HaveFilledPages s slots =
    map (λ (t : PageSlot). t.page) slots
    ≡ map (λ (p : Page). p.number) (filled_below s page_count)

-- The memory of a program is pages of its words.
pub record ImageIsPages (s : Source) : Type 0 where
  pub memory_is : paged (readable s) (writable s) (page_words s) ≡ (image_of s).memory
  -- what has no slot is zero
  pub are_paged : (slots : List PageSlot) → HaveFilledPages s slots
      → IsPaged (readable s) (writable s) (page_words s) slots
  -- there are no more slots than pages that can be read
  pub few : (slots : List PageSlot) → HaveFilledPages s slots
      → length slots ≤ length (pages_of (readable s) (writable s) page_count)
