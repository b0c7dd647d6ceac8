-- The memory that a call of the system sees: two arrays of pages, one of the pages that can be read and one of those that may be
-- written. The byte at address a is lane a modulo 4 of element (a / 4) modulo 1024 of page a / 4096.
use Rattle.std.specs.Prelude.{ℕ, ◌/◌, ◌%◌, ◌^◌, nat_lt, if◌then◌else◌, Option, Some, None, is_some, option_map, option_and_then}
use Rattle.std.specs.Option.{option_or}
use Rattle.run_definition.specs.Words.{lane_of_word, word_with_lane}
use Rattle.run_definition.specs.Memory.{Memory}
use Rattle.jvm_definition.specs.Values.{Array, ints, pages, Heap, with_int}

-- the heap, and the places of the two arrays; none for null
pub record HostMemory : Type 0 where
  pub heap : Heap
  pub readable : Option ℕ
  pub writable : Option ℕ

-- an element of an array of ints: the array's place, the index and the word
pub record Cell : Type 0 where
  pub place : ℕ
  pub index : ℕ
  pub word : ℕ

abbrev pub page_in : Option Array → ℕ → Option ℕ
page_in (Some (pages size f)) n = if nat_lt n size then f n else None
page_in _ n = None

abbrev pub word_in_array : Option Array → ℕ → Option ℕ
word_in_array (Some (ints size f)) i = if nat_lt i size then Some (f i) else None
word_in_array _ i = None

-- the element with the byte at an address, where the array, the page and the element are there
abbrev pub cell_of : Heap → Option ℕ → ℕ → Option Cell
cell_of heap table a =
    option_and_then (λ p. option_map (λ w. record { place = p; index = a / 4 % 1024; word = w })
    (word_in_array (heap.array_at p) (a / 4 % 1024)))
    (option_and_then (λ t. page_in (heap.array_at t) (a / 4096)) table)

abbrev pub byte_of : Heap → Option ℕ → ℕ → Option ℕ
byte_of heap table a = if nat_lt a (2 ^ 32)
    then option_map (λ c. lane_of_word c.word (a % 4)) (cell_of heap table a) else None

-- what both arrays have is read through the first
abbrev pub memory_of : HostMemory → Memory
memory_of m = record {
  byte = λ a. option_or (byte_of m.heap m.readable a) (byte_of m.heap m.writable a);
  writable = λ a. is_some (byte_of m.heap m.writable a);
}

abbrev pub with_cell : Heap → Option Cell → ℕ → ℕ → Heap
with_cell heap None lane b = heap
with_cell heap (Some c) lane b = with_int heap c.place c.index (word_with_lane c.word lane b)

-- a byte put through the second array
abbrev pub with_host_byte : HostMemory → ℕ → ℕ → HostMemory
with_host_byte m a b = record m { heap = with_cell m.heap (cell_of m.heap m.writable a) (a % 4) b }
