-- A memory that is held: two tables with one page, which may be written.
use Rattle.std.proofs.Common.{◌≡◌, ℕ, ◌+◌, ◌*◌, ◌%◌, ◌^◌, ◌==◌, Bool, true, false, if◌then◌else◌, Option, Some, None, refl, ap, sym, ◌∙◌, arith}
use Rattle.std.proofs.lemmas.Bool.{eqb-true}
use Rattle.run_definition.specs.Memory.{Memory}
use Rattle.jvm_definition.specs.Values.{ints, pages, Heap}
use Rattle.jvm_definition.specs.HostMemory.{memory_of}
use Rattle.emit_layout.specs.FieldNumbers.{page_count}
use Rattle.emit_simulation_laws.specs.Match.{HoldsMemory, host_memory}

-- page 7 is the array at place 900
abbrev one_page : ℕ → Option ℕ
one_page n = if n == 7 then Some 900 else None

abbrev heap : Heap
heap = record {
  used = 1000;
  array_at = λ p. if p == 900 then Some (ints 1024 (λ i. i % 2 ^ 32)) else if p == 100 then Some (pages page_count one_page) else if p == 200 then Some (pages page_count one_page) else None;
}

abbrev memory : Memory
memory = memory_of (host_memory heap 100 200)

-- word 1 of page 7 is 1
some_bytes : memory.byte (7 * 4096 + 7) ≡ Some 1
some_bytes = refl

no_byte : memory.byte (8 * 4096) ≡ None
no_byte = refl

only-page : (n p : ℕ) (b : Bool) → (n == 7) ≡ b → (if b then Some 900 else None) ≡ Some p → (n ≡ 7) × (p ≡ 900)
only-page n p true e is = (eqb-true n 7 e, cc)
only-page n p false e is = cc

memory-held : HoldsMemory heap 100 200 memory
memory-held = record {
  readable_pages = one_page;
  writable_pages = one_page;
  readable_there = refl;
  writable_there = refl;
  whole = λ n p e. record {
    words = λ i. i % 2 ^ 32;
    there = ap heap.array_at (only-page n p (n == 7) refl e).1;
    are_words = λ i. omega arith;
  };
  apart = λ n k p e f. (only-page n p (n == 7) refl e).0 ∙ sym (only-page k p (k == 7) refl f).0;
  shared = λ n p e. e;
  reads = refl;
}
