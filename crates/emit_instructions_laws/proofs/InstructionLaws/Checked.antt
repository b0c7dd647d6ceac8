-- Sums and differences that may overflow.
use Rattle.std.proofs.Common.{ℕ, ◌<◌, Bool, int_lt, pos, bit_and, bit_xor, List, [], ◌∷◌, refl, ap, sym, lit≤}
use Rattle.run_definition.specs.Words.{IsWord, signed_of}
use Rattle.mips_definition.specs.Arithmetic.{arithmetic_result}
use Rattle.mips_definition.specs.Step.{result_effect}
use Rattle.mips_definition.specs.declared.names.arithmetic_name.ArithmeticName.TheVariants.{Add, Sub}
use Rattle.delay_slots.specs.Turns.{done_by}
use Rattle.block_builder.specs.Registers.{general}
use Rattle.jvm_definition.specs.declared.int_arithmetic.IntArithmetic.TheVariants.{Iadd, Isub, Ixor}
use Rattle.jvm_definition.specs.declared.stack_name.StackName.TheVariants.{Dup, DupX1, Swap}
use Rattle.jvm_definition.specs.declared.instruction.Instruction.TheVariants as instructions
use Rattle.jvm_definition.specs.declared.value.Value.TheVariants.{Int as int}
use Rattle.jvm_definition.specs.Words.{int_result}
use Rattle.emit_steps.specs.declared.step.Step.{Step}
use Rattle.emit_steps.specs.declared.step.Step.TheVariants.{Does}
use Rattle.emit_instructions.specs.Access.{arithmetic}
use Rattle.emit_instructions.specs.Computing.{overflow_code}
use Rattle.emit_simulation_laws.proofs.Signs as sums
use Rattle.emit_simulation_laws.proofs.GuestFollows.CodeLaws.{CodeLaws}
use Rattle.emit_instructions_laws.proofs.InstructionLaws.Settings.{Setting, Lies, Followed, Pushed, laters}
use Rattle.emit_instructions_laws.proofs.InstructionLaws.Endings.{checked-put}
use Rattle.emit_instructions_laws.proofs.InstructionLaws.Words.{int-result-word}
use Rattle.emit_instructions_laws.proofs.InstructionLaws.Differences as differences

module _ (laws : CodeLaws) (x : Setting) (d word : ℕ) (below : d < 32) (first second : Step) (a b : ℕ) (pushes_a : Pushed x first a)
    (pushes_b : Pushed x second b) (word_a : IsWord a) (word_b : IsWord b) where
  abbrev checked : List Step
  checked = overflow_code x.bank d x.state.pc word

  -- the sign of this word says whether there is an overflow
  abbrev overflows : ℕ → ℕ → Bool
  overflows m n = int_lt (signed_of (bit_and m n)) (pos 0)

  -- steps from the one on that pushes the first word, and from the one on that pushes the second
  abbrev sum_tested_again : List Step
  sum_tested_again = second ∷ arithmetic Ixor ∷ checked

  abbrev sum_tested : List Step
  sum_tested = first ∷ arithmetic Ixor ∷ Does (instructions.Stack Swap) ∷ Does (instructions.Stack DupX1) ∷ sum_tested_again

  abbrev sum_added : List Step
  sum_added = second ∷ arithmetic Iadd ∷ Does (instructions.Stack Dup) ∷ sum_tested

  pub sum-done : Lies x (first ∷ sum_added)
      → Followed x (general d ∷ []) (first ∷ sum_added) (done_by (result_effect x.state word d (arithmetic_result Add a b)) x.state)
  sum-done lies =
      let sum = int_result Iadd a b in
      checked-put laws x (first ∷ sum_added) lies (overflows (bit_xor sum a) (bit_xor sum b)) d sum 11 word
      (int (bit_and (bit_xor sum a) (bit_xor sum b)) ∷ int sum ∷ x.before.operands) (arithmetic_result Add a b) below
      (int-result-word Iadd a b word_a word_b)
      (sym (sums.overflow-is a b word_a word_b)) (lit≤ tt) refl
      (pushes_a sum_added x.before.operands _
      (pushes_b (arithmetic Iadd ∷ Does (instructions.Stack Dup) ∷ sum_tested) (int a ∷ x.before.operands) _
      (ap (laters 2)
      (pushes_a (arithmetic Ixor ∷ Does (instructions.Stack Swap) ∷ Does (instructions.Stack DupX1) ∷ sum_tested_again)
      (int sum ∷ int sum ∷ x.before.operands) _
      (ap (laters 3)
      (pushes_b (arithmetic Ixor ∷ checked) (int sum ∷ int (bit_xor sum a) ∷ int sum ∷ x.before.operands) _ refl))))))

  abbrev difference_tested_again : List Step
  difference_tested_again = second ∷ arithmetic Ixor ∷ checked

  abbrev difference_tested : List Step
  difference_tested = first ∷ arithmetic Ixor ∷ first ∷ difference_tested_again

  abbrev difference_taken : List Step
  difference_taken = second ∷ arithmetic Isub ∷ Does (instructions.Stack Dup) ∷ difference_tested

  pub difference-done : Lies x (first ∷ difference_taken)
      → Followed x (general d ∷ []) (first ∷ difference_taken) (done_by (result_effect x.state word d (arithmetic_result Sub a b)) x.state)
  difference-done lies =
      let difference = int_result Isub a b in
      let changed = int (bit_xor difference a) ∷ int difference ∷ x.before.operands in
      checked-put laws x (first ∷ difference_taken) lies (overflows (bit_xor difference a) (bit_xor a b)) d difference 10 word
      (int (bit_and (bit_xor difference a) (bit_xor a b)) ∷ int difference ∷ x.before.operands) (arithmetic_result Sub a b) below
      (int-result-word Isub a b word_a word_b)
      (sym (differences.overflow-is a b word_a word_b)) (lit≤ tt) refl
      (pushes_a difference_taken x.before.operands _
      (pushes_b (arithmetic Isub ∷ Does (instructions.Stack Dup) ∷ difference_tested) (int a ∷ x.before.operands) _
      (ap (laters 2)
      (pushes_a (arithmetic Ixor ∷ first ∷ difference_tested_again) (int difference ∷ int difference ∷ x.before.operands) _
      (ap (laters 1)
      (pushes_a difference_tested_again changed _
      (pushes_b (arithmetic Ixor ∷ checked) (int a ∷ changed) _ refl)))))))
