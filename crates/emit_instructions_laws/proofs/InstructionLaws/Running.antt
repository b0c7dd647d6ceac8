-- What code over a bank does to operands, step by step.
use Rattle.std.proofs.Common.{◌≡◌, ℕ, Bool, true, false, if◌then◌else◌, List, [], ◌∷◌, ap, ◌∙◌}
use Rattle.mips_definition.specs.State.{State, register}
use Rattle.jvm_definition.specs.declared.branch_name.BranchName.{BranchName}
use Rattle.jvm_definition.specs.declared.branch_name.BranchName.TheVariants.{Goto}
use Rattle.jvm_definition.specs.declared.value.Value.{Value}
use Rattle.jvm_definition.specs.declared.value.Value.TheVariants.{Int as int}
use Rattle.jvm_definition.specs.Program.{Program}
use Rattle.jvm_definition.specs.Effect.{Workspace, with_operands, branches, chooses}
use Rattle.emit_steps.specs.declared.step.Step.{Step}
use Rattle.emit_steps.specs.declared.step.Step.TheVariants.{Skips}
use Rattle.emit_steps.specs.Outcomes.{Outcome, ended, later, beyond, outcome, outcome_from, after_branch}
use Rattle.emit_instructions.specs.Access.{get_register, put_register, push_word}
use Rattle.emit_instructions.specs.Computing.{chosen_code}
use Rattle.emit_simulation_laws.specs.Knowing.{IsKnown}
use Rattle.emit_simulation_laws.specs.Holding.{HoldsOn, with_value}
use Rattle.emit_simulation_laws.proofs.RegisterLaws.Reading.{register-pushed}
use Rattle.emit_simulation_laws.proofs.RegisterLaws.Writing.{register-put}

module _ (program : Program) (words bank : ℕ) (known : ℕ → Bool) (w : Workspace) (s : State) (h : HoldsOn bank known w s) where
  -- a register is pushed on operands, and then the code goes on
  pub gets : (r : ℕ) (code : List Step) (operands : List Value) (o : Outcome) → IsKnown known r → outcome program words code (with_operands w (int (register s r) ∷ operands)) ≡ o → outcome program words (get_register bank r ∷ code) (with_operands w operands) ≡ later o
  gets r code operands o is rest = register-pushed program words bank r known code (with_operands w operands) s h is ∙ ap later rest

  -- a word is taken into a register
  pub puts : (d n : ℕ) (operands : List Value) → outcome program words (put_register bank d ∷ []) (with_operands w (int n ∷ operands)) ≡ ended 1 (with_value bank d (int n) w operands)
  puts d n operands = register-put program words bank d n [] (with_operands w operands) operands

  -- a test chooses 1 or 0, which is taken into a register
  pub chooses-one : (test : BranchName) (t : Bool) (d : ℕ) (before operands : List Value) → branches test (with_operands w before) ≡ chooses t (with_operands w before) operands → outcome program words (chosen_code bank test d) (with_operands w before) ≡ ended (if t then 3 else 4) (with_value bank d (int (if t then 1 else 0)) w operands)
  chooses-one test true d before operands is =
      ap (λ e. after_branch (with_operands w before) e (outcome_from program words (push_word 0 ∷ Skips Goto 1 ∷ push_word 1 ∷ put_register bank d ∷ []) 0) (outcome_from program words (push_word 0 ∷ Skips Goto 1 ∷ push_word 1 ∷ put_register bank d ∷ []) 2)) is
      ∙ ap (λ o. later (beyond (beyond (later o)))) (puts d 1 operands)
  chooses-one test false d before operands is =
      ap (λ e. after_branch (with_operands w before) e (outcome_from program words (push_word 0 ∷ Skips Goto 1 ∷ push_word 1 ∷ put_register bank d ∷ []) 0) (outcome_from program words (push_word 0 ∷ Skips Goto 1 ∷ push_word 1 ∷ put_register bank d ∷ []) 2)) is
      ∙ ap (λ o. later (later (later (beyond o)))) (puts d 0 operands)
