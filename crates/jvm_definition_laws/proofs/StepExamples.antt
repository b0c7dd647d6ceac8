-- Programs of a few instructions, and what their runs come to.
use Rattle.std.proofs.Common.{◌≡◌, ℕ, ◌+◌, ◌-◌, ◌%◌, ◌^◌, ◌==◌, false, ℤ, pos, negsuc, List, [], ◌∷◌, map, Some, if◌then◌else◌, refl, slice_get}
use Rattle.run_definition.specs.Question.{no_text, no_room, there}
use Rattle.run_definition.specs.Answer.{Answer, next_answer}
use Rattle.run_definition.specs.Run.{Run, run_of}
use Rattle.run_definition.specs.declared.outcome.Outcome.{Outcome}
use Rattle.run_definition.specs.declared.outcome.Outcome.TheVariants.{Exited, Faulted, Trapped, Waiting, Going}
use Rattle.jvm_definition.specs.declared.array_name.ArrayName.TheVariants.{Iaload, Aaload, Aastore}
use Rattle.jvm_definition.specs.declared.branch_name.BranchName.TheVariants.{IfIcmplt}
use Rattle.jvm_definition.specs.declared.int_division.IntDivision.TheVariants.{Idiv}
use Rattle.jvm_definition.specs.declared.int_arithmetic.IntArithmetic.TheVariants.{Iadd, Imul}
use Rattle.jvm_definition.specs.declared.stack_name.StackName.TheVariants.{Pop}
use Rattle.jvm_definition.specs.declared.return_name.ReturnName.TheVariants as returns
use Rattle.jvm_definition.specs.declared.array_kind.ArrayKind.TheVariants as array_kinds
use Rattle.jvm_definition.specs.declared.constant.Constant.TheVariants as constants
use Rattle.jvm_definition.specs.declared.kind.Kind.{Kind}
use Rattle.jvm_definition.specs.declared.kind.Kind.TheVariants as kinds
use Rattle.jvm_definition.specs.declared.local_kind.LocalKind.TheVariants as local_kinds
use Rattle.jvm_definition.specs.declared.linked_line.LinkedLine.{LinkedLine}
use Rattle.jvm_definition.specs.declared.linked_method.LinkedMethod.{LinkedMethod}
use Rattle.jvm_definition.specs.declared.instruction.Instruction.{Instruction}
use Rattle.jvm_definition.specs.declared.instruction.Instruction.TheVariants as instructions
use Rattle.jvm_definition.specs.declared.value.Value.{Value}
use Rattle.jvm_definition.specs.declared.value.Value.TheVariants.{Int as int}
use Rattle.jvm_definition.specs.Program.{Program}
use Rattle.jvm_definition.specs.Effect.{Workspace}
use Rattle.jvm_definition.specs.Step.{JvmState, jvm_start, jvm_turn}
use Rattle.jvm_definition_laws.specs.Stretch.{stretch}

-- ---- how programs are written down here

-- instructions with their sizes, one after the other from an offset on
abbrev laid : ℕ → List (ℕ × Instruction) → List LinkedLine
laid at [] = []
laid at (i ∷ rest) = record { at = at; next = at + i.0; instruction = i.1 } ∷ laid (at + i.0) rest

-- a method by its parameters and its instructions
abbrev method : List Kind → List (ℕ × Instruction) → LinkedMethod
method parameters code = record { parameters = parameters; gives_int = false; stack = 9; locals = 9; lines = laid 0 code }

abbrev program_of : List LinkedMethod → Program
program_of methods = record { field = λ f. Some kinds.Int; method = slice_get methods; characters = λ c s. []; first = 0 }

-- the run of a program of one method, in a region of so many words, for so many steps
abbrev run : List LinkedMethod → ℕ → ℕ → List Answer → Run JvmState (List Answer)
run methods words n answers = run_of (jvm_turn (program_of methods) words) next_answer n (jvm_start (program_of methods)) answers

abbrev outcome : List (ℕ × Instruction) → ℕ → ℕ → Outcome
outcome code words n = (run (method [] code ∷ []) words n []).outcome

-- what a field holds at the end of a run
abbrev field : Run JvmState (List Answer) → ℕ → Value
field r f = r.last.fields f

abbrev push : ℕ → ℕ × Instruction
push n = (1, instructions.Push (constants.Int n))

abbrev push_null : ℕ × Instruction
push_null = (1, instructions.Push constants.Null)

abbrev pop : ℕ × Instruction
pop = (1, instructions.Stack Pop)

abbrev put : ℕ → ℕ × Instruction
put f = (3, instructions.Put f kinds.Int)

abbrev new_ints : ℕ × Instruction
new_ints = (2, instructions.NewArray array_kinds.Ints)

abbrev call : ℕ → ℕ × Instruction
call m = (3, instructions.Call m)

abbrev end : ℕ × Instruction
end = (1, instructions.Return returns.Return)

-- ---- traps

-- 01 BE 57 B1
null_has_no_length : outcome (push_null ∷ (1, instructions.ArrayLength) ∷ pop ∷ end ∷ []) 9 9 ≡ Trapped 1
null_has_no_length = refl

-- 03 BC 0A 03 2E 57 B1
an_empty_array_has_no_element : outcome (push 0 ∷ new_ints ∷ push 0 ∷ (1, instructions.Array Iaload) ∷ pop ∷ end ∷ []) 9 9 ≡ Trapped 2
an_empty_array_has_no_element = refl

-- 02 BC 0A 57 B1
no_array_has_a_negative_size : outcome (push (2 ^ 32 - 1) ∷ new_ints ∷ pop ∷ end ∷ []) 9 9 ≡ Trapped 3
no_array_has_a_negative_size = refl

-- 04 03 6C 57 B1
abbrev division : List (ℕ × Instruction)
division = push 1 ∷ push 0 ∷ (1, instructions.IntDivision Idiv) ∷ pop ∷ end ∷ []

-- a trap is a step of its own: the outcomes after 2, 3 and 4 steps
nothing_is_divided_by_zero : map (outcome division 9) (2 ∷ 3 ∷ 4 ∷ []) ≡ Going ∷ Trapped 4 ∷ Trapped 4 ∷ []
nothing_is_divided_by_zero = refl

-- B8 00 09 B1, in a method that calls itself: the 64th frame is there after 63 steps
there_are_64_frames : map (outcome (call 0 ∷ end ∷ []) 9) (63 ∷ 64 ∷ []) ≡ Going ∷ Trapped 5 ∷ []
there_are_64_frames = refl

-- 03 BC 0A 57 B1: an array without elements has two words
an_array_has_room_or_none : map (λ words. outcome (push 0 ∷ new_ints ∷ pop ∷ end ∷ []) words 9) (1 ∷ 2 ∷ []) ≡ Trapped 6 ∷ Exited (pos 0) ∷ []
an_array_has_room_or_none = refl

-- ---- calls of the system

abbrev answer : ℤ → List ℕ → Answer
answer value patch = record { value = value; patch = patch }

-- Host.call with no pages, and what it gives goes to field 5
abbrev calling : ℕ → ℕ → List LinkedMethod
calling number first =
    method [] (push_null ∷ push_null ∷ push number ∷ push first ∷ push 11 ∷ push 12 ∷ push 13 ∷ (3, instructions.CallHost) ∷ put 5 ∷ end ∷ [])
    ∷ []

an_answer_lands_on_the_stack : map (λ value. field (run (calling 6 10) 9 9 (answer value [] ∷ [])) 5) (pos 7 ∷ negsuc 0 ∷ []) ≡ int 7 ∷ int (2 ^ 32 - 1) ∷ []
an_answer_lands_on_the_stack = refl

a_call_shows_its_words : (run (calling 6 10) 9 9 (answer (pos 7) [] ∷ [])).questions ≡ record { number = 6; a0 = 10; a1 = 11; a2 = 12; a3 = 13; text = no_text; second = no_text; room = no_room } ∷ []
a_call_shows_its_words = refl

a_call_without_an_answer_waits : map (λ n. (run (calling 6 10) 9 n []).outcome) (7 ∷ 8 ∷ []) ≡ Going ∷ Waiting ∷ []
a_call_without_an_answer_waits = refl

-- call 1 ends the program with its first word as the status, whether or not there is an answer
call_one_exits : map (λ status. (run (calling 1 status) 9 9 []).outcome) (3 ∷ (2 ^ 32 - 1) ∷ []) ≡ Exited (pos 3) ∷ Exited (negsuc 0) ∷ []
call_one_exits = refl

a_fault_ends_the_program : outcome (push 7 ∷ push 64 ∷ push 99 ∷ (3, instructions.FaultHost) ∷ end ∷ []) 9 9 ≡ Faulted (record { kind = 7; pc = 64; value = 99 })
a_fault_ends_the_program = refl

-- One page is made, call 4 reads two bytes to address 5, and the page's second word goes to field 5.
abbrev reading : List (ℕ × Instruction)
reading =
    push 1
    ∷ (3, instructions.NewArray array_kinds.Pages)
    ∷ (2, instructions.Store local_kinds.Reference 0)
    ∷ (2, instructions.Load local_kinds.Reference 0)
    ∷ push 0
    ∷ (3, instructions.Push (constants.Int 1024))
    ∷ new_ints
    ∷ (1, instructions.Array Aastore)
    ∷ push_null
    ∷ (2, instructions.Load local_kinds.Reference 0)
    ∷ push 4
    ∷ push 0
    ∷ push 5
    ∷ push 2
    ∷ push 0
    ∷ (3, instructions.CallHost)
    ∷ pop
    ∷ (2, instructions.Load local_kinds.Reference 0)
    ∷ push 0
    ∷ (1, instructions.Array Aaload)
    ∷ push 1
    ∷ (1, instructions.Array Iaload)
    ∷ put 5
    ∷ end
    ∷ []

the_patch_of_an_answer_is_put : field (run (method [] reading ∷ []) 2000 30 (answer (pos 2) (0xAB ∷ 0xCD ∷ []) ∷ [])) 5 ≡ int 0x00AB_CD00
the_patch_of_an_answer_is_put = refl

the_room_of_a_call_is_shown : (run (method [] reading ∷ []) 2000 30 []).questions ≡ record { number = 4; a0 = 0; a1 = 5; a2 = 2; a3 = 0; text = no_text; second = no_text; room = there 5 2 } ∷ []
the_room_of_a_call_is_shown = refl

-- ---- loops and calls

-- field 5 is the product of 1 to 5: local variable 0 counts from 1, and local variable 1 is the product
abbrev product : List (ℕ × Instruction)
product =
    push 1
    ∷ (2, instructions.Store local_kinds.Int 0)
    ∷ push 1
    ∷ (2, instructions.Store local_kinds.Int 1)
    ∷ (2, instructions.Load local_kinds.Int 1)
    ∷ (2, instructions.Load local_kinds.Int 0)
    ∷ (1, instructions.IntArithmetic Imul)
    ∷ (2, instructions.Store local_kinds.Int 1)
    ∷ (3, instructions.Increment 0 1)
    ∷ (2, instructions.Load local_kinds.Int 0)
    ∷ push 6
    ∷ (3, instructions.Branch IfIcmplt 6)
    ∷ (2, instructions.Load local_kinds.Int 1)
    ∷ put 5
    ∷ end
    ∷ []

a_loop_runs_to_its_end : field (run (method [] product ∷ []) 9 47 []) 5 ≡ int 120
a_loop_runs_to_its_end = refl

a_loop_has_its_count_of_steps : map (outcome product 9) (46 ∷ 47 ∷ []) ≡ Going ∷ Exited (pos 0) ∷ []
a_loop_has_its_count_of_steps = refl

-- method 1 gives 100 times its first argument and its second, method 2 gives one less than its argument
abbrev deep : List LinkedMethod
deep =
    method [] (push 7 ∷ push 5 ∷ call 1 ∷ put 5 ∷ end ∷ [])
    ∷ method (kinds.Int ∷ kinds.Int ∷ []) (
    (2, instructions.Load local_kinds.Int 0)
    ∷ push 100
    ∷ (1, instructions.IntArithmetic Imul)
    ∷ (2, instructions.Load local_kinds.Int 1)
    ∷ call 2
    ∷ (1, instructions.IntArithmetic Iadd)
    ∷ (1, instructions.Return returns.Ireturn)
    ∷ [])
    ∷ method (kinds.Int ∷ []) (
    (3, instructions.Increment 0 (2 ^ 32 - 1))
    ∷ (2, instructions.Load local_kinds.Int 0)
    ∷ (1, instructions.Return returns.Ireturn)
    ∷ [])
    ∷ []

a_call_two_deep_returns_an_int : field (run deep 9 15 []) 5 ≡ int 704
a_call_two_deep_returns_an_int = refl

-- ---- stretches

-- the sum of a field and a constant goes to another field
abbrev sum : ℕ → ℕ → ℕ → List LinkedLine
sum from by to =
    laid 0 ((3, instructions.Get from kinds.Int) ∷ (3, instructions.Push (constants.Int by)) ∷ (1, instructions.IntArithmetic Iadd) ∷ put to ∷ [])

sum_is : (program : Program) (words from by to a : ℕ) (w : Workspace) → w.fields from ≡ int a → stretch program words (sum from by to) 4 0 w ≡ Some (record {
  at = 10;
  workspace = record {
    locals = w.locals;
    operands = w.operands;
    fields = λ g. if g == to then int ((a + by) % 2 ^ 32) else w.fields g;
    heap = w.heap;
  };
})
sum_is program words from by to a w is = simp (is) refl
