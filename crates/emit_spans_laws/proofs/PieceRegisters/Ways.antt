-- The ways on behind a unit leave the fields of registers alone.
use Rattle.std.proofs.Common.{ℕ, ◌≤◌, ◌||◌, Bool, true, false, [], ◌∷◌, ◌++◌, length, Option, refl, arith}
use Rattle.mips_definition.specs.Branches.{equal_likely, zero_likely, sign_likely}
use Rattle.mips_definition.specs.Targets.{branch_target, jump_target}
use Rattle.mips_definition.specs.declared.inst.Inst.{Inst}
use Rattle.mips_definition.specs.declared.inst.Inst.TheVariants as inst
use Rattle.delay_slots.specs.declared.unit.Unit.{Unit as Word}
use Rattle.delay_slots.specs.declared.unit.Unit.TheVariants as units
use Rattle.jvm_definition.specs.declared.branch_name.BranchName.{BranchName}
use Rattle.jvm_definition.specs.declared.branch_name.BranchName.TheVariants.{IfIcmpne}
use Rattle.jvm_definition.specs.declared.local_kind.LocalKind.TheVariants as local_kinds
use Rattle.jvm_definition.specs.declared.instruction.Instruction.TheVariants as instructions
use Rattle.emit_steps.specs.declared.step.Step.TheVariants.{Does, Skips, Leaves}
use Rattle.emit_layout.specs.FieldNumbers.{pc_field}
use Rattle.emit_instructions.specs.Access.{push_word, put_field}
use Rattle.emit_instructions.specs.Branching.{behind_slot, equal_test, zero_test, sign_test}
use Rattle.emit_instructions.specs.Units.{next_address}
use Rattle.word_emitter.specs.declared.extent.Extent.{Extent}
use Rattle.word_emitter.specs.Pieces.{is_likely}
use Rattle.emit_steps.specs.Returning.{returns}
use Rattle.word_emitter.specs.Exits.{has, follows, go, next_exit, unless, chosen_ways, arrive, last_way, two_ways, conditional_exit, branch_exit, passing_exit, exit_code}
use Rattle.emit_spans_laws.proofs.PieceRegisters.Touching.{Quiet, StepQuiet, other-field, quiet-both, quiet-either, step-either}

module _ (q : ℕ) (low : 1 ≤ q) (high : q ≤ 31) (span : Extent) (behind : Option ℕ) where
  arriving : (goal : ℕ) → StepQuiet q (arrive span goal)
  arriving goal = step-either q (has span goal) (Leaves goal) returns refl refl

  last : (goal : ℕ) → Quiet q (last_way span behind goal)
  last goal = quiet-either q (follows behind goal) [] (arrive span goal ∷ []) refl (rw (arriving goal) refl)

  two : (first second : ℕ) → Quiet q (two_ways span behind first second)
  two first second =
      let front = Does (instructions.Load local_kinds.Int 0) ∷ push_word first ∷ Skips IfIcmpne 1 ∷ arrive span first ∷ [] in
      quiet-either q (has span first || has span second) (front ++ last_way span behind second) (returns ∷ [])
      (quiet-both q front (last_way span behind second) (rw (arriving first) refl) (last second)) refl

  to : (goal : ℕ) → Quiet q (go span goal)
  to goal =
      quiet-either q (has span goal) (Leaves goal ∷ []) (push_word goal ∷ put_field pc_field ∷ returns ∷ []) refl
      (rw (other-field q low high pc_field (omega arith)) refl)

  next : (goal : ℕ) → Quiet q (next_exit span behind goal)
  next goal = quiet-either q (follows behind goal) [] (go span goal) refl (to goal)

  chosen : (test : BranchName) (target second : ℕ) → Quiet q (chosen_ways span behind test target second)
  chosen test target second =
      quiet-both q (Skips (unless test) (length (go span target)) ∷ []) (go span target ++ next_exit span behind second) refl
      (quiet-both q (go span target) (next_exit span behind second) (to target) (next second))

  conditional : (likely : Bool) (test : BranchName) (target second : ℕ) → Quiet q (conditional_exit span behind likely test target second)
  conditional true test target second = two target second
  conditional false test target second = chosen test target second

  branch : (i : Inst) (at : ℕ) → Quiet q (branch_exit span behind i at)
  branch (inst.BranchSign name rs imm) at = conditional (sign_likely name) (sign_test name) (branch_target at imm) (behind_slot at)
  branch (inst.BranchEqual name rs rt imm) at = conditional (equal_likely name) (equal_test name) (branch_target at imm) (behind_slot at)
  branch (inst.BranchZero name rs imm) at = conditional (zero_likely name) (zero_test name) (branch_target at imm) (behind_slot at)
  branch (inst.Jump name index) at = next (jump_target at index)
  branch (inst.JumpRegister rs) at = rw (other-field q low high pc_field (omega arith)) refl
  branch (inst.JumpAndLinkRegister rs rd) at = rw (other-field q low high pc_field (omega arith)) refl
  branch other at = refl

  passing : (i : Inst) (at : ℕ) → Quiet q (passing_exit span behind i at)
  passing i at = quiet-either q (is_likely i) (last_way span behind (behind_slot at)) (returns ∷ []) (last (behind_slot at)) refl

  pub exit-quiet : (unit : Word) (at : ℕ) → Quiet q (exit_code span behind unit at)
  exit-quiet (units.Plain i) at = next (next_address at)
  exit-quiet (units.Branch i slot) at = branch i at
  exit-quiet (units.SlotMissing i) at = passing i at
  exit-quiet (units.SlotIsBranch i word) at = passing i at
  exit-quiet units.Call at = next (next_address at)
  exit-quiet (units.Trap kind value) at = refl
