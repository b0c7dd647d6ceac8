-- The memory of a system call over a heap behind other arrays: the same bytes, and the same places that may be written.
use Rattle.std.proofs.Common.{◌≡◌, ℕ, ◌+◌, ◌/◌, ◌%◌, ◌^◌, nat_lt, Bool, true, false, if◌then◌else◌, List, [], ◌∷◌, Option, Some, None, is_some, option_map, option_and_then, refl, ap, ◌∙◌}
use Rattle.std.specs.Option.{option_or}
use Rattle.run_definition.specs.Words.{lane_of_word}
use Rattle.run_definition.specs.Memory.{patched}
use Rattle.run_definition.specs.Question.{asked}
use Rattle.run_definition.specs.Answer.{answered, room_place}
use Rattle.run_definition.specs.declared.call.Call.{Call}
use Rattle.jvm_definition.specs.Values.{Array, ints, pages, Heap}
use Rattle.jvm_definition.specs.HostMemory.{HostMemory, Cell, page_in, word_in_array, cell_of, byte_of, memory_of, with_cell, with_host_byte}
use Rattle.jvm_definition.specs.Step.{host_question}
use Rattle.jvm_run_laws.specs.Relocation.{relocated_place, relocated_array, relocated_heap}
use Rattle.jvm_run_laws.proofs.Heaps.{far_array, far_int}

abbrev pub far_memory : Heap → HostMemory → HostMemory
far_memory below m = record {
  heap = relocated_heap below m.heap;
  readable = relocated_place below.used m.readable;
  writable = relocated_place below.used m.writable;
}

abbrev far_cell : ℕ → Cell → Cell
far_cell by c = record { place = by + c.place; index = c.index; word = c.word }

far_page_choice : (by : ℕ) (b : Bool) (p : Option ℕ) → (if b then relocated_place by p else None) ≡ relocated_place by (if b then p else None)
far_page_choice by true p = refl
far_page_choice by false p = refl

far_page_in : (by : ℕ) (a : Option Array) (n : ℕ) → page_in (option_map (relocated_array by) a) n ≡ relocated_place by (page_in a n)
far_page_in by None n = refl
far_page_in by (Some (ints size words)) n = refl
far_page_in by (Some (pages size places)) n = far_page_choice by (nat_lt n size) (places n)

same_word_in : (by : ℕ) (a : Option Array) (i : ℕ) → word_in_array (option_map (relocated_array by) a) i ≡ word_in_array a i
same_word_in by None i = refl
same_word_in by (Some (ints size words)) i = refl
same_word_in by (Some (pages size places)) i = refl

abbrev word_cell : ℕ → ℕ → ℕ → Cell
word_cell place index word = record { place = place; index = index; word = word }

far_word : (by place index : ℕ) (word : Option ℕ) → option_map (word_cell (by + place) index) word ≡ option_map (far_cell by) (option_map (word_cell place index) word)
far_word by place index None = refl
far_word by place index (Some w) = refl

module _ (below : Heap) where
  -- ---- cells and bytes

  far_on_page : (heap : Heap) (index : ℕ) (page : Option ℕ) → option_and_then (λ p. option_map (word_cell p index) (word_in_array ((relocated_heap below heap).array_at p) index)) (relocated_place below.used page) ≡ option_map (far_cell below.used) (option_and_then (λ p. option_map (word_cell p index) (word_in_array (heap.array_at p) index)) page)
  far_on_page heap index None = refl
  far_on_page heap index (Some p) =
      ap (λ a. option_map (word_cell (below.used + p) index) (word_in_array a index)) (far_array below heap p)
      ∙ ap (option_map (word_cell (below.used + p) index)) (same_word_in below.used (heap.array_at p) index)
      ∙ far_word below.used p index (word_in_array (heap.array_at p) index)

  far_in_table : (heap : Heap) (n : ℕ) (table : Option ℕ) → option_and_then (λ t. page_in ((relocated_heap below heap).array_at t) n) (relocated_place below.used table) ≡ relocated_place below.used (option_and_then (λ t. page_in (heap.array_at t) n) table)
  far_in_table heap n None = refl
  far_in_table heap n (Some t) =
      ap (λ a. page_in a n) (far_array below heap t) ∙ far_page_in below.used (heap.array_at t) n

  far_cell_of : (heap : Heap) (table : Option ℕ) (a : ℕ) → cell_of (relocated_heap below heap) (relocated_place below.used table) a ≡ option_map (far_cell below.used) (cell_of heap table a)
  far_cell_of heap table a =
      ap (option_and_then (λ p. option_map (word_cell p (a / 4 % 1024)) (word_in_array ((relocated_heap below heap).array_at p) (a / 4 % 1024)))) (far_in_table heap (a / 4096) table)
      ∙ far_on_page heap (a / 4 % 1024) (option_and_then (λ t. page_in (heap.array_at t) (a / 4096)) table)

  same_lane : (lane : ℕ) (c : Option Cell) → option_map (λ (c : Cell). lane_of_word c.word lane) (option_map (far_cell below.used) c) ≡ option_map (λ (c : Cell). lane_of_word c.word lane) c
  same_lane lane None = refl
  same_lane lane (Some c) = refl

  same_byte_of : (heap : Heap) (table : Option ℕ) (a : ℕ) → byte_of (relocated_heap below heap) (relocated_place below.used table) a ≡ byte_of heap table a
  same_byte_of heap table a =
      ap (λ o. if nat_lt a (2 ^ 32) then o else None)
      (ap (option_map (λ (c : Cell). lane_of_word c.word (a % 4))) (far_cell_of heap table a) ∙ same_lane (a % 4) (cell_of heap table a))

  -- ---- questions

  same_memory : (m : HostMemory) → memory_of (far_memory below m) ≡ memory_of m
  same_memory m = λ x. record {
    byte = λ a. option_or (same_byte_of m.heap m.readable a x) (same_byte_of m.heap m.writable a x);
    writable = λ a. is_some (same_byte_of m.heap m.writable a x);
  }

  pub same_question : (call : Call) (m : HostMemory) → host_question call (far_memory below m) ≡ host_question call m
  same_question call m = ap (asked call) (same_memory m)

  -- ---- the bytes of an answer

  far_with_cell : (heap : Heap) (c : Option Cell) (lane b : ℕ) → with_cell (relocated_heap below heap) (option_map (far_cell below.used) c) lane b ≡ relocated_heap below (with_cell heap c lane b)
  far_with_cell heap None lane b = refl
  far_with_cell heap (Some c) lane b = far_int below heap c.place c.index _

  far_with_byte : (m : HostMemory) (a b : ℕ) → with_host_byte (far_memory below m) a b ≡ far_memory below (with_host_byte m a b)
  far_with_byte m a b =
      ap (λ (heap : Heap). record { heap = heap; readable = relocated_place below.used m.readable; writable = relocated_place below.used m.writable })
      (ap (λ c. with_cell (relocated_heap below m.heap) c (a % 4) b) (far_cell_of m.heap m.writable a) ∙ far_with_cell m.heap (cell_of m.heap m.writable a) (a % 4) b)

  far_patched : (bytes : List ℕ) (m : HostMemory) (a : ℕ) → patched with_host_byte (far_memory below m) a bytes ≡ far_memory below (patched with_host_byte m a bytes)
  far_patched [] m a = refl
  far_patched (b ∷ bytes) m a =
      ap (λ (m : HostMemory). patched with_host_byte m (a + 1) bytes) (far_with_byte m a b)
      ∙ far_patched bytes (with_host_byte m a b) (a + 1)

  pub far_answered : (call : Call) (m : HostMemory) (patch : List ℕ) → answered with_host_byte (far_memory below m) (host_question call (far_memory below m)) patch ≡ far_memory below (answered with_host_byte m (host_question call m) patch)
  far_answered call m patch =
      ap (λ q. answered with_host_byte (far_memory below m) q patch) (same_question call m)
      ∙ far_patched patch m (room_place (host_question call m).room)
