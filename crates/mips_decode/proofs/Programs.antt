-- Programs of a few words at 00400000, and their runs from the start over a list of answers.
use Rattle.std.proofs.Common.{ℕ, ◌+◌, ◌-◌, ◌/◌, ◌%◌, Bool, ◌&&◌, ◌||◌, ◌==◌, nat_lt, nat_le, if◌then◌else◌, List, [], ◌∷◌, Option, Some, None, ℤ, pos, slice_get, map}
use Rattle.run_definition.specs.Memory.{Memory}
use Rattle.run_definition.specs.Question.{Question}
use Rattle.run_definition.specs.Answer.{Answer, next_answer}
use Rattle.run_definition.specs.Run.{Run, run_of}
use Rattle.run_definition.specs.Words.{lane_of_word}
use Rattle.run_definition.specs.declared.order.Order.TheVariants.{Big}
use Rattle.mips_definition.specs.State.{State, start}
use Rattle.mips_definition.specs.Step.{turn}

abbrev pub code_start : ℕ
code_start = 0x0040_0000

-- the word of a program at an address
abbrev pub code_word : List ℕ → ℕ → Option ℕ
code_word words a = if nat_le code_start a && a % 4 == 0 then slice_get words ((a - code_start) / 4) else None

abbrev pub code_byte : List ℕ → ℕ → ℕ
code_byte words a = elim (slice_get words ((a - code_start) / 4)) [ None ↦ 0 | Some w ↦ lane_of_word w (a % 4) ]

-- one page of code and one of heap after it; one of stack and the argument page after it, which end at 80000000
abbrev pub heap_start : ℕ
heap_start = 0x0040_1000

abbrev pub in_code : ℕ → Bool
in_code a = nat_le code_start a && nat_lt a heap_start

abbrev pub in_data : ℕ → Bool
in_data a = nat_le heap_start a && nat_lt a (heap_start + 4096) || nat_le 0x7fff_e000 a && nat_lt a 0x8000_0000

abbrev pub program_memory : List ℕ → Memory
program_memory words = record {
  byte = λ a. if in_code a then Some (code_byte words a) else if in_data a then Some 0 else None;
  writable = in_data;
}

abbrev pub started : List ℕ → State
started words = start Big code_start (program_memory words) (code_word words) heap_start 4096

-- an answer without bytes
abbrev pub value : ℤ → Answer
value z = record { value = z; patch = [] }

-- a run of n steps over answers to the loader's call and to further ones
abbrev pub run : List ℕ → ℕ → List Answer → Run State (List Answer)
run words n further = run_of turn next_answer n (started words) (value (pos 1) ∷ further)

-- the numbers of the questions of a run
abbrev pub numbers : Run State (List Answer) → List ℕ
numbers r = map (λ (q : Question). q.number) r.questions
