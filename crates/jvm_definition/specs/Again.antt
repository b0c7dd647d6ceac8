-- A program whose fields are as at its start again, over what runs have left of the heap.
use Rattle.std.specs.Prelude.{◌≡◌, ℕ, ◌≤◌, List, [], ◌∷◌, Option, None}
use Rattle.run_definition.specs.Question.{Question}
use Rattle.run_definition.specs.Answer.{Answer, next_answer}
use Rattle.run_definition.specs.Run.{run_of}
use Rattle.jvm_definition.specs.Values.{Heap, no_arrays, with_int}
use Rattle.jvm_definition.specs.Program.{Program}
use Rattle.jvm_definition.specs.Step.{JvmState, field_zero, entered_frame, jvm_turn}

-- the start over a heap: its arrays stay where they are, and no field has one
abbrev pub again : Program → Heap → JvmState
again program heap = record {
  fields = λ f. field_zero (program.field f);
  heap = heap;
  frames = entered_frame program.first [] ∷ [];
}

-- the heap after at most n turns from there, in a region of so many words
abbrev pub heap_after : {K : Type 0} → (K → Question → Option (Answer × K)) → Program → ℕ → ℕ
    → Heap → K → Heap
heap_after reply program words n heap k =
    (run_of (jvm_turn program words) reply n (again program heap) k).last.heap

-- nothing stands where new arrays will
abbrev pub IsFree : Heap → Type 0
IsFree heap = (p : ℕ) → heap.used ≤ p → heap.array_at p ≡ None

-- What runs of the program leave, one after the other, each in a region of any size and over any
-- answers, ended or broken off; a system may have written into the arrays of ints meanwhile.
pub data IsLeft (program : Program) : Heap → Type 0 where
  no_run : IsLeft program no_arrays
  after_run : (words n : ℕ) (heap : Heap) (answers : List Answer) → IsLeft program heap
      → IsLeft program (heap_after next_answer program words n heap answers)
  after_write : (heap : Heap) (p i word : ℕ) → IsLeft program heap
      → IsLeft program (with_int heap p i word)
