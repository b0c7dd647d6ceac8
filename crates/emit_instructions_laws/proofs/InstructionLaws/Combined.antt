-- Words that are pushed, combined or compared, and the result goes to a register.
use Rattle.std.proofs.Common.{◌≡◌, ℕ, ◌<◌, Bool, if◌then◌else◌, int_lt, List, [], ◌∷◌, refl, lit≤}
use Rattle.run_definition.specs.Words.{IsWord, signed_of}
use Rattle.jvm_definition.specs.declared.int_arithmetic.IntArithmetic.{IntArithmetic}
use Rattle.jvm_definition.specs.declared.int_shift.IntShift.{IntShift}
use Rattle.jvm_definition.specs.declared.branch_name.BranchName.TheVariants.{IfIcmplt}
use Rattle.jvm_definition.specs.declared.value.Value.TheVariants.{Int as int}
use Rattle.jvm_definition.specs.Words.{int_result, int_shifted}
use Rattle.jvm_definition.specs.declared.instruction.Instruction.TheVariants as instructions
use Rattle.emit_steps.specs.declared.step.Step.{Step}
use Rattle.emit_steps.specs.declared.step.Step.TheVariants.{Does}
use Rattle.emit_instructions.specs.Access.{put_register, arithmetic}
use Rattle.emit_instructions.specs.Computing.{chosen_code}
use Rattle.emit_simulation_laws.proofs.GuestFollows.CodeLaws.{CodeLaws}
use Rattle.emit_instructions_laws.proofs.InstructionLaws.Settings.{Setting, Lies, Gives, Pushed}
use Rattle.emit_instructions_laws.proofs.InstructionLaws.Words.{int-result-word, int-shifted-word}
use Rattle.emit_instructions_laws.proofs.InstructionLaws.Endings.{result-put, choice-put}

module _ (laws : CodeLaws) (x : Setting) (d : ℕ) (below : d < 32) where
  pub moved-gives : (first : Step) (a result : ℕ) → Lies x (first ∷ put_register x.bank d ∷ []) → Pushed x first a → IsWord a → a ≡ result
      → Gives x (first ∷ put_register x.bank d ∷ []) d result
  moved-gives first a result lies pushes word same =
      result-put laws x (first ∷ put_register x.bank d ∷ []) lies d a result 1 below word same (lit≤ tt)
      (pushes (put_register x.bank d ∷ []) x.before.operands _ refl)

  module _ (first second : Step) (a b : ℕ) (pushes_a : Pushed x first a) (pushes_b : Pushed x second b) where
    abbrev combined : IntArithmetic → List Step
    combined name = first ∷ second ∷ arithmetic name ∷ put_register x.bank d ∷ []

    pub combined-gives : (name : IntArithmetic) → Lies x (combined name) → IsWord a → IsWord b → Gives x (combined name) d (int_result name a b)
    combined-gives name lies word_a word_b =
        result-put laws x (combined name) lies d (int_result name a b) (int_result name a b) 3 below (int-result-word name a b word_a word_b) refl
        (lit≤ tt)
        (pushes_a (second ∷ arithmetic name ∷ put_register x.bank d ∷ []) x.before.operands _
        (pushes_b (arithmetic name ∷ put_register x.bank d ∷ []) (int a ∷ x.before.operands) _ refl))

    abbrev shifting : IntShift → List Step
    shifting name = first ∷ second ∷ Does (instructions.IntShift name) ∷ put_register x.bank d ∷ []

    pub shifted-gives : (name : IntShift) (result : ℕ) → Lies x (shifting name) → IsWord a → int_shifted name a b ≡ result
        → Gives x (shifting name) d result
    shifted-gives name result lies word same =
        result-put laws x (shifting name) lies d (int_shifted name a b) result 3 below (int-shifted-word name a b word) same (lit≤ tt)
        (pushes_a (second ∷ Does (instructions.IntShift name) ∷ put_register x.bank d ∷ []) x.before.operands _
        (pushes_b (Does (instructions.IntShift name) ∷ put_register x.bank d ∷ []) (int a ∷ x.before.operands) _ refl))

    pub less-gives : (answer : Bool) → Lies x (first ∷ second ∷ chosen_code x.bank IfIcmplt d) → int_lt (signed_of a) (signed_of b) ≡ answer
        → Gives x (first ∷ second ∷ chosen_code x.bank IfIcmplt d) d (if answer then 1 else 0)
    less-gives answer lies same =
        choice-put laws x (first ∷ second ∷ chosen_code x.bank IfIcmplt d) lies IfIcmplt (int_lt (signed_of a) (signed_of b)) answer d 2
        (int b ∷ int a ∷ x.before.operands) below same (lit≤ tt) refl
        (pushes_a (second ∷ chosen_code x.bank IfIcmplt d) x.before.operands _
        (pushes_b (chosen_code x.bank IfIcmplt d) (int a ∷ x.before.operands) _ refl))
