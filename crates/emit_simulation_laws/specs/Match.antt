-- When the arrays of the class machine hold the memory of the guest.
use Rattle.std.specs.Prelude.{◌≡◌, ℕ, ◌-◌, Option, Some}
use Rattle.run_definition.specs.Words.{IsWord}
use Rattle.run_definition.specs.Memory.{Memory}
use Rattle.jvm_definition.specs.Values.{ints, pages, Heap}
use Rattle.jvm_definition.specs.HostMemory.{HostMemory, memory_of}
use Rattle.emit_layout.specs.FieldNumbers.{page_count}

abbrev pub host_memory : Heap → ℕ → ℕ → HostMemory
host_memory heap readable writable = record {
  heap = heap;
  readable = Some readable;
  writable = Some writable;
}

-- An array is a page: 1,024 words.
pub record IsPage (heap : Heap) (p : ℕ) : Type 0 where
  pub words : ℕ → ℕ
  pub there : heap.array_at p ≡ Some (ints 1024 words)
  pub are_words : (i : ℕ) → IsWord (words i)

-- Two arrays are the tables of pages: each page is an array of its own, one that may be written is the same in both, and what is
-- read through them is the guest's memory.
pub record HoldsMemory (heap : Heap) (readable writable : ℕ) (memory : Memory) : Type 0 where
  pub readable_pages : ℕ → Option ℕ
  pub writable_pages : ℕ → Option ℕ
  pub readable_there : heap.array_at readable ≡ Some (pages page_count readable_pages)
  pub writable_there : heap.array_at writable ≡ Some (pages page_count writable_pages)
  pub whole : (n p : ℕ) → readable_pages n ≡ Some p → IsPage heap p
  pub apart : (n k p : ℕ) → readable_pages n ≡ Some p → readable_pages k ≡ Some p → n ≡ k
  pub shared : (n p : ℕ) → writable_pages n ≡ Some p → readable_pages n ≡ Some p
  pub reads : memory_of (host_memory heap readable writable) ≡ memory
