-- The memory and the code with which a program starts.
use Rattle.std.specs.Prelude.{ℕ, ◌*◌, ◌/◌, ◌%◌, Bool, ◌&&◌, ◌==◌, if◌then◌else◌, List, Option, Some, None}
use Rattle.run_definition.specs.declared.order.Order.{Order}
use Rattle.run_definition.specs.Memory.{Memory}
use Rattle.elf_definition.specs.Header.{order_of, header_of}
use Rattle.elf_definition.specs.Segments.{live}
use Rattle.elf_definition.specs.Area.{area}
use Rattle.elf_definition.specs.Pages.{is_readable_page, is_writable_page, heap_page, mapped_pages}
use Rattle.elf_definition.specs.Content.{stored_byte, stored_code_word}

-- what a program starts with
pub record Start : Type 0 where
  pub entry : ℕ
  pub memory : Memory
  pub order : Order
  -- the word at each multiple of 4 in the code area
  pub code : ℕ → Option ℕ
  pub heap_start : ℕ
  pub heap_bytes : ℕ
  -- the number of pages that can be read
  pub mapped : ℕ

-- a file that was accepted, with the pages of heap and stack that it is given
pub record Source : Type 0 where
  pub file : List ℕ
  pub heap : ℕ
  pub stack : ℕ

-- the byte at an address that can be read
unfoldable pub start_byte : Source → ℕ → Option ℕ
start_byte s at = if is_readable_page (live s.file) s.heap s.stack (at / 4096)
    then Some (stored_byte s.file (live s.file) at) else None

-- the word at a multiple of 4 in the code area
unfoldable pub code_at : Source → ℕ → Option ℕ
code_at s at = if at % 4 == 0 && area s.file at then Some (stored_code_word s.file (live s.file) at)
    else None

-- a page can be read, and can be written
abbrev pub readable : Source → ℕ → Bool
readable s page = is_readable_page (live s.file) s.heap s.stack page

abbrev pub writable : Source → ℕ → Bool
writable s page = is_writable_page (live s.file) s.heap s.stack page

unfoldable pub image_of : Source → Start
image_of s = record {
  entry = (header_of s.file).e_entry;
  memory = record { byte = start_byte s; writable = λ at. writable s (at / 4096) };
  order = order_of s.file;
  code = code_at s;
  heap_start = 4096 * heap_page (live s.file);
  heap_bytes = 4096 * s.heap;
  mapped = mapped_pages (live s.file) s.heap s.stack;
}
