-- The guest's memory as it is kept, in pages of 4,096 bytes, and the bytes that it shows.
use Rattle.std.specs.Prelude.{◌≡◌, ℕ, ◌+◌, ◌/◌, ◌%◌, ◌^◌, ◌<◌, Bool, true, false, ◌==◌, nat_lt, if◌then◌else◌, List, length, slice_index, slice_index_or, slice_set, Option, Some, None, option_map}
use Rattle.run_definition.specs.Memory.{Memory}
use Rattle.run_definition.specs.Words.{lane_of_word}
use Rattle.mips_memory.specs.declared.page.Page.{Page}
use Rattle.mips_memory.specs.declared.page.Page.TheVariants.{Unmapped, ReadOnly, Writable}

-- what each page is, by its number, and the bytes of all pages that are there
pub record Pages : Type 0 where
  pub table : List Page
  pub bytes : List ℕ

-- what is added to the address of a page's byte, modulo 2 ^ 32, for its place among all bytes
abbrev pub shift_of : Page → Option ℕ
shift_of Unmapped = None
shift_of (ReadOnly k) = Some k
shift_of (Writable k) = Some k

abbrev pub is_writable : Page → Bool
is_writable Unmapped = false
is_writable (ReadOnly k) = false
is_writable (Writable k) = true

-- the page of a number; addresses from 80000000 on have none
unfoldable pub entry : Pages → ℕ → Page
entry p n = if nat_lt n 524288 then slice_index_or p.table n Unmapped else Unmapped

-- where the byte of an address stands, if its page is there
unfoldable pub cell : Pages → ℕ → Option ℕ
cell p a = option_map (λ k. (a + k) % 2 ^ 32) (shift_of (entry p (a / 4096)))

-- the memory that the pages are
unfoldable pub memory_of : Pages → Memory
memory_of p = record {
  byte = λ a. option_map (slice_index p.bytes) (cell p a);
  writable = λ a. is_writable (entry p (a / 4096));
}

-- the pages with a byte put at an address
unfoldable pub put_byte_at : Pages → ℕ → ℕ → Pages
put_byte_at p a b =
    elim (cell p a) [ None ↦ p | Some i ↦ record p { bytes = slice_set p.bytes i b } ]

-- Pages are whole and are shifted by multiples of 4,096; each byte of a page has its place within
-- the bytes, and no two have the same.
pub record IsSound (p : Pages) : Type 0 where
  pub size : length p.table ≡ 524288
  pub whole : length p.bytes % 4096 ≡ 0
  pub aligned : (n k : ℕ) → shift_of (entry p n) ≡ Some k → k % 4096 ≡ 0
  pub within : (a i : ℕ) → cell p a ≡ Some i → i < length p.bytes
  pub apart : (a b i : ℕ) → cell p a ≡ Some i → cell p b ≡ Some i → a ≡ b

-- a memory of no pages
abbrev pub no_memory : Memory
no_memory = record { byte = λ a. None; writable = λ a. false }

-- a memory with one more page
abbrev pub with_page : Memory → ℕ → Bool → List ℕ → Memory
with_page m page writable words = record {
  byte = λ a. if a / 4096 == page
      then Some (lane_of_word (slice_index words (a / 4 % 1024)) (a % 4)) else m.byte a;
  writable = λ a. if a / 4096 == page then writable else m.writable a;
}

-- a memory with one more page, of zeros
abbrev pub with_zero_page : Memory → ℕ → Bool → Memory
with_zero_page m page writable = record {
  byte = λ a. if a / 4096 == page then Some 0 else m.byte a;
  writable = λ a. if a / 4096 == page then writable else m.writable a;
}
