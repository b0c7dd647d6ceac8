-- Arrays of ints with words at their front.
use Rattle.std.specs.Prelude.{ℕ, ◌==◌, if◌then◌else◌, List, slice_index_or, Option, Some}
use Rattle.jvm_definition.specs.Values.{Array, ints, Heap}

-- the array with these as its first words, as many of them as it is long
abbrev pub set_ints : Option Array → List ℕ → Option Array
set_ints (Some (ints size f)) given = Some (ints size (λ i. slice_index_or given i (f i)))
set_ints a given = a

-- the heap with these as the first words of the array at a place
abbrev pub with_ints : Heap → ℕ → List ℕ → Heap
with_ints heap p given =
    record heap {
      array_at = λ q. if q == p then set_ints (heap.array_at q) given
          else heap.array_at q;
    }
