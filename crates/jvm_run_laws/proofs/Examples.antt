-- A program that makes an array of three ints, puts it into its field and returns: its runs one after the other, and above another frame.
use Rattle.std.proofs.Common.{◌≡◌, ℕ, false, List, [], ◌∷◌, slice_get, pos, refl}
use Rattle.run_definition.specs.Answer.{Answer, next_answer}
use Rattle.run_definition.specs.Run.{Run, run_of}
use Rattle.run_definition.specs.declared.outcome.Outcome.TheVariants.{Exited, Trapped, Going}
use Rattle.jvm_definition.specs.declared.return_name.ReturnName.TheVariants as returns
use Rattle.jvm_definition.specs.declared.array_kind.ArrayKind.TheVariants as array_kinds
use Rattle.jvm_definition.specs.declared.constant.Constant.TheVariants as constants
use Rattle.jvm_definition.specs.declared.instruction.Instruction.{Instruction}
use Rattle.jvm_definition.specs.declared.instruction.Instruction.TheVariants as instructions
use Rattle.jvm_definition.specs.declared.kind.Kind.TheVariants as kinds
use Rattle.jvm_definition.specs.declared.linked_line.LinkedLine.{LinkedLine}
use Rattle.jvm_definition.specs.declared.linked_method.LinkedMethod.{LinkedMethod}
use Rattle.jvm_definition.specs.declared.value.Value.TheVariants.{Unset as unset, Array as array}
use Rattle.jvm_definition.specs.Values.{Heap}
use Rattle.jvm_definition.specs.Program.{Program}
use Rattle.jvm_definition.specs.Step.{Frame, JvmState, jvm_start, jvm_turn}
use Rattle.jvm_definition.specs.Again.{again, heap_after}
use Rattle.jvm_run_laws.specs.Below.{above, StandsNowhere}

abbrev line : ℕ → ℕ → Instruction → LinkedLine
line at next instruction = record { at = at; next = next; instruction = instruction }

abbrev making : LinkedMethod
making = record {
  parameters = [];
  gives_int = false;
  stack = 1;
  locals = 0;
  lines = line 0 1 (instructions.Push (constants.Int 3)) ∷ line 1 2 (instructions.NewArray array_kinds.Ints) ∷ line 2 3 (instructions.Put 0 kinds.Ints) ∷ line 3 4 (instructions.Return returns.Return) ∷ [];
}

abbrev program : Program
program = record {
  field = slice_get (kinds.Ints ∷ []);
  method = slice_get (making ∷ []);
  characters = λ class slot. [];
  first = 0;
}

abbrev run : ℕ → ℕ → JvmState → Run JvmState (List Answer)
run words n s = run_of (jvm_turn program words) next_answer n s []

-- ---- one run after the other

-- the first run takes five words: with less it traps for want of room
first_ends : (run 5 4 (jvm_start program)).outcome ≡ Exited (pos 0)
first_ends = refl

first_makes : (run 5 4 (jvm_start program)).last.fields 0 ≡ array 0
first_makes = refl

first_wants : (run 4 4 (jvm_start program)).outcome ≡ Trapped 6
first_wants = refl

-- what it leaves
abbrev left : Heap
left = heap_after next_answer program 5 4 (jvm_start program).heap []

takes_five : left.used ≡ 5
takes_five = refl

-- the next run takes five more, and makes its array behind the first one
next_ends : (run 10 4 (again program left)).outcome ≡ Exited (pos 0)
next_ends = refl

next_makes : (run 10 4 (again program left)).last.fields 0 ≡ array 5
next_makes = refl

next_wants : (run 9 4 (again program left)).outcome ≡ Trapped 6
next_wants = refl

-- ---- above another frame

abbrev nowhere : Frame
nowhere = record { method = 1; at = 0; locals = λ i. unset; operands = [] }

is_nowhere : StandsNowhere program nowhere
is_nowhere = refl

-- it returns to that frame, which cannot go on
returns_there : (run 5 4 (above nowhere (jvm_start program))).outcome ≡ Going
returns_there = refl

traps_there : (run 5 5 (above nowhere (jvm_start program))).outcome ≡ Trapped 0
traps_there = refl
