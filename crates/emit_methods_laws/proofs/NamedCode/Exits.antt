-- The exits behind units, in methods that give nothing.
use Rattle.std.proofs.Common.{ℕ, Bool, true, false, ◌||◌, if◌then◌else◌, List, [], ◌∷◌, Option, refl}
use Rattle.mips_definition.specs.Branches.{equal_likely, zero_likely, sign_likely}
use Rattle.mips_definition.specs.Targets.{branch_target, jump_target}
use Rattle.mips_definition.specs.declared.inst.Inst.{Inst}
use Rattle.mips_definition.specs.declared.inst.Inst.TheVariants as inst
use Rattle.delay_slots.specs.declared.unit.Unit.{Unit}
use Rattle.delay_slots.specs.declared.unit.Unit.TheVariants.{Plain, Branch, SlotMissing, SlotIsBranch, Call, Trap}
use Rattle.jvm_definition.specs.declared.branch_name.BranchName.{BranchName}
use Rattle.jvm_definition.specs.declared.branch_name.BranchName.TheVariants.{IfIcmpne}
use Rattle.jvm_definition.specs.declared.local_kind.LocalKind.TheVariants as local_kinds
use Rattle.jvm_definition.specs.declared.instruction.Instruction.TheVariants as instructions
use Rattle.emit_steps.specs.declared.step.Step.{Step}
use Rattle.emit_steps.specs.declared.step.Step.TheVariants.{Does, Skips, Leaves}
use Rattle.emit_layout.specs.FieldNumbers.{pc_field}
use Rattle.emit_instructions.specs.Access.{push_word, put_field}
use Rattle.emit_instructions.specs.Branching.{behind_slot, equal_test, zero_test, sign_test}
use Rattle.emit_instructions.specs.Units.{next_address}
use Rattle.word_emitter.specs.declared.extent.Extent.{Extent}
use Rattle.word_emitter.specs.Pieces.{is_likely}
use Rattle.emit_steps.specs.Returning.{returns}
use Rattle.word_emitter.specs.Exits.{has, follows, go, next_exit, arrive, last_way, two_ways, conditional_exit, branch_exit, passing_exit, exit_code}
use Rattle.emit_methods_laws.proofs.NamedCode.Steps.{Well, StepWell, step-either, well-append, well-either}

module _ (calls : ℕ → Bool) (class : ℕ) (span : Extent) (behind : Option ℕ) where
  abbrev Named : List Step → Type 0
  Named code = Well calls class false code

  either : (b : Bool) (xs ys : List Step) → Named xs → Named ys → Named (if b then xs else ys)
  either b xs ys h k = well-either calls class false b xs ys h k

  arriving : (goal : ℕ) → StepWell calls class false (arrive span goal)
  arriving goal = step-either calls class false (has span goal) (Leaves goal) returns refl refl

  last : (goal : ℕ) → Named (last_way span behind goal)
  last goal = either (follows behind goal) [] (arrive span goal ∷ []) refl (rw (arriving goal) refl)

  two : (first second : ℕ) → Named (two_ways span behind first second)
  two first second =
      either (has span first || has span second)
      (Does (instructions.Load local_kinds.Int 0) ∷ push_word first ∷ Skips IfIcmpne 1 ∷ arrive span first ∷ last_way span behind second)
      (returns ∷ []) (rw (arriving first) (last second)) refl

  to : (goal : ℕ) → Named (go span goal)
  to goal = either (has span goal) (Leaves goal ∷ []) (push_word goal ∷ put_field pc_field ∷ returns ∷ []) refl refl

  next : (goal : ℕ) → Named (next_exit span behind goal)
  next goal = either (follows behind goal) [] (go span goal) refl (to goal)

  conditional : (likely : Bool) (test : BranchName) (target second : ℕ) → Named (conditional_exit span behind likely test target second)
  conditional true test target second = two target second
  conditional false test target second =
      well-append calls class false (go span target) (next_exit span behind second) (to target) (next second)

  branch : (i : Inst) (at : ℕ) → Named (branch_exit span behind i at)
  branch (inst.BranchSign name rs imm) at = conditional (sign_likely name) (sign_test name) (branch_target at imm) (behind_slot at)
  branch (inst.BranchEqual name rs rt imm) at = conditional (equal_likely name) (equal_test name) (branch_target at imm) (behind_slot at)
  branch (inst.BranchZero name rs imm) at = conditional (zero_likely name) (zero_test name) (branch_target at imm) (behind_slot at)
  branch (inst.Jump name index) at = next (jump_target at index)
  branch other at = refl

  passing : (i : Inst) (at : ℕ) → Named (passing_exit span behind i at)
  passing i at = either (is_likely i) (last_way span behind (behind_slot at)) (returns ∷ []) (last (behind_slot at)) refl

  pub exit-well : (unit : Unit) (at : ℕ) → Named (exit_code span behind unit at)
  exit-well (Plain i) at = next (next_address at)
  exit-well (Branch i slot) at = branch i at
  exit-well (SlotMissing i) at = passing i at
  exit-well (SlotIsBranch i word) at = passing i at
  exit-well Call at = next (next_address at)
  exit-well (Trap kind value) at = refl
