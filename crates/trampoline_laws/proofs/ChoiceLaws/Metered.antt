-- The method for addresses outside all code, in a program with a meter.
use Rattle.std.proofs.Common.{◌≡◌, ℕ, ◌^◌, ◌<◌, ◌≤◌, int_lt, not, Bool, true, List, ◌∷◌, ap, ◌∙◌, arith, lit≤}
use Rattle.std.proofs.lemmas.Int.{ints}
use Rattle.run_definition.specs.Words.{signed_of}
use Rattle.jvm_definition.specs.declared.branch_name.BranchName.TheVariants.{IfIcmpge}
use Rattle.jvm_definition.specs.declared.value.Value.TheVariants.{Int as int}
use Rattle.jvm_definition.specs.declared.instruction.Instruction.TheVariants.{FaultHost}
use Rattle.jvm_definition.specs.Program.{Program}
use Rattle.jvm_definition.specs.Effect.{Workspace, with_operands, faults, chooses}
use Rattle.emit_steps.specs.declared.step.Step.{Step}
use Rattle.emit_steps.specs.declared.step.Step.TheVariants.{Does, Skips}
use Rattle.emit_steps.specs.Outcomes.{Outcome, stopped, later, after_branch, outcome, outcome_from}
use Rattle.emit_layout.specs.FieldNumbers.{pc_field}
use Rattle.emit_instructions.specs.Access.{push_word, get_field}
use Rattle.meter.specs.Guards.{spent_kind}
use Rattle.meter_laws.specs.Meters.{HasLeft, spent_fault, with_spent}
use Rattle.trampoline.specs.Choosers.{missing_code, metered_missing_code}
use Rattle.trampoline_laws.specs.Coming.{Stops, stray_fault, with_stray}
use Rattle.trampoline_laws.proofs.ChoiceLaws.Passing.{more, passed, executed}
use Rattle.trampoline_laws.proofs.ChoiceLaws.Choosers.{stray-faults}

-- the test of the meter is passed
enough : (a : ℕ) → a < 2 ^ 31 → 1 ≤ a → not (int_lt (signed_of a) (signed_of 1)) ≡ true
enough a small some = grind (arith, ints)

module _ (program : Program) (words x : ℕ) (w : Workspace) (is : w.fields pc_field ≡ int x) where
  -- behind the test
  abbrev behind : List Step
  behind = push_word spent_kind ∷ get_field pc_field ∷ push_word 0 ∷ Does FaultHost ∷ missing_code

  abbrev chosen : ℕ → Bool → Outcome
  chosen left t =
      let v = with_operands w (int 1 ∷ int left ∷ w.operands) in
      later (later (after_branch v (chooses t v w.operands) (outcome_from program words behind 0) (outcome_from program words behind 4)))

  looks : (left : ℕ) → HasLeft left w → outcome program words metered_missing_code w ≡ chosen left (not (int_lt (signed_of left) (signed_of 1)))
  looks left has = ap (λ v. later (outcome program words (push_word 1 ∷ Skips IfIcmpge 4 ∷ behind) (with_operands w (v ∷ w.operands)))) has.0

  pub metered-faults : (left : ℕ) → HasLeft left w → 1 ≤ left → Stops program words 13 metered_missing_code w (with_stray w x) (faults (stray_fault x))
  metered-faults left has some =
      let plain = stray-faults program words x w is in
      record {
        turns = more 3 plain.turns;
        step = more 7 plain.step;
        comes = looks left has ∙ ap (chosen left) (enough left has.1 some) ∙ ap (λ o. executed 3 (passed 4 o)) plain.comes;
        in_time = omega (arith, plain.in_time);
      }

  -- it is not passed
  spent : outcome program words behind w ≡ stopped 3 3 (with_spent w x) (faults (spent_fault x))
  spent = ap (λ v. executed 2 (outcome program words (push_word 0 ∷ Does FaultHost ∷ missing_code) (with_operands w (v ∷ int spent_kind ∷ w.operands)))) is

  pub spent-ends : HasLeft 0 w → Stops program words 6 metered_missing_code w (with_spent w x) (faults (spent_fault x))
  spent-ends has = record {
    turns = 6;
    step = 6;
    comes = looks 0 has ∙ ap (λ o. executed 3 o) spent;
    in_time = lit≤ tt;
  }
