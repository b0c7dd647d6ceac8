-- The exits behind units have operations.
use Rattle.std.proofs.Common.{◌≡◌, ℕ, ◌≤◌, Bool, true, false, ◌||◌, if◌then◌else◌, List, [], ◌∷◌, ◌++◌, Option, length, length-append, refl, arith}
use Rattle.std.proofs.lemmas.Bool.{and_from, lt-ltb}
use Rattle.mips_definition.specs.Branches.{equal_likely, zero_likely, sign_likely}
use Rattle.mips_definition.specs.Targets.{branch_target, jump_target}
use Rattle.mips_definition.specs.declared.inst.Inst.{Inst}
use Rattle.mips_definition.specs.declared.inst.Inst.TheVariants as inst
use Rattle.delay_slots.specs.declared.unit.Unit.{Unit}
use Rattle.delay_slots.specs.declared.unit.Unit.TheVariants.{Plain, Branch, SlotMissing, SlotIsBranch, Call, Trap}
use Rattle.jvm_definition.specs.declared.branch_name.BranchName.{BranchName}
use Rattle.jvm_definition.specs.declared.branch_name.BranchName.TheVariants.{IfIcmpne}
use Rattle.jvm_definition.specs.declared.local_kind.LocalKind.TheVariants as local_kinds
use Rattle.jvm_definition.specs.declared.instruction.Instruction.TheVariants as instructions
use Rattle.emit_steps.specs.declared.step.Step.{Step}
use Rattle.emit_steps.specs.declared.step.Step.TheVariants.{Does, Skips, Leaves}
use Rattle.emit_steps.specs.Widths.{width, bytes_before, size}
use Rattle.emit_layout.specs.FieldNumbers.{pc_field}
use Rattle.emit_instructions.specs.Access.{push_word, put_field}
use Rattle.emit_instructions.specs.Branching.{behind_slot, equal_test, zero_test, sign_test}
use Rattle.emit_instructions.specs.Units.{next_address}
use Rattle.word_emitter.specs.declared.extent.Extent.{Extent}
use Rattle.word_emitter.specs.Pieces.{is_likely}
use Rattle.emit_steps.specs.Returning.{returns}
use Rattle.word_emitter.specs.Exits.{has, follows, go, next_exit, arrive, last_way, two_ways, conditional_exit, branch_exit, passing_exit, exit_code}
use Rattle.emit_assembly.specs.declared.references.References.{References}
use Rattle.emit_assembly.specs.Assembling.{reaches, step_has_operation, have_operations}
use Rattle.emit_limits.proofs.StepSizes.{word-bytes}
use Rattle.emit_methods_laws.proofs.WholeCode.Operations.{Operates, operates-either, reaches-from}

module _ (r : References) (fields : 38 ≤ length r.fields) (span : Extent) (behind : Option ℕ) where
  either : (b : Bool) (xs ys : List Step) → Operates r xs → Operates r ys → Operates r (if b then xs else ys)
  either b xs ys h k = operates-either r b xs ys h k

  arriving : (goal : ℕ) (others : List Step) → step_has_operation r (arrive span goal) others ≡ true
  arriving goal others = by_test (has span goal)
    where
      by_test : (b : Bool) → step_has_operation r (if b then Leaves goal else returns) others ≡ true
      by_test true = refl
      by_test false = refl

  arrive-small : (goal : ℕ) → width (arrive span goal) ≤ 5
  arrive-small goal = by_test (has span goal)
    where
      by_test : (b : Bool) → width (if b then Leaves goal else returns) ≤ 5
      by_test true = omega arith
      by_test false = omega arith

  arrives : (goal : ℕ) (others : List Step) → Operates r others → Operates r (arrive span goal ∷ others)
  arrives goal others h =
      and_from (step_has_operation r (arrive span goal) others) (have_operations r others) (arriving goal others) h

  last : (goal : ℕ) → Operates r (last_way span behind goal)
  last goal = either (follows behind goal) [] (arrive span goal ∷ []) refl (arrives goal [] refl)

  two : (first second : ℕ) → Operates r (two_ways span behind first second)
  two first second =
      let others = arrive span first ∷ last_way span behind second in
      let small = arrive-small first in
      either (has span first || has span second) (Does (instructions.Load local_kinds.Int 0) ∷ push_word first ∷ Skips IfIcmpne 1 ∷ others)
      (returns ∷ [])
      (and_from (reaches others 1) (have_operations r others) (reaches-from others 1 (omega arith) (omega (arith, small)))
      (arrives first (last_way span behind second) (last second)))
      refl

  outside : (goal : ℕ) (others : List Step) → Operates r others → Operates r (push_word goal ∷ put_field pc_field ∷ returns ∷ others)
  outside goal others h = rw (lt-ltb pc_field (length r.fields) (omega (arith, fields)), h) refl

  to : (goal : ℕ) (others : List Step) → Operates r others → Operates r (go span goal ++ others)
  to goal others h = by_test (has span goal)
    where
      by_test : (b : Bool) → Operates r ((if b then Leaves goal ∷ [] else push_word goal ∷ put_field pc_field ∷ returns ∷ []) ++ others)
      by_test true = h
      by_test false = outside goal others h

  next : (goal : ℕ) → Operates r (next_exit span behind goal)
  next goal = either (follows behind goal) [] (go span goal) refl (by_test (has span goal))
    where
      by_test : (b : Bool) → Operates r (if b then Leaves goal ∷ [] else push_word goal ∷ put_field pc_field ∷ returns ∷ [])
      by_test true = refl
      by_test false = outside goal [] refl

  -- a test goes over at most seven bytes
  go-small : (goal : ℕ) → size (go span goal) ≤ 7
  go-small goal = by_test (has span goal)
    where
      by_test : (b : Bool) → size (if b then Leaves goal ∷ [] else push_word goal ∷ put_field pc_field ∷ returns ∷ []) ≤ 7
      by_test true = omega arith
      by_test false = omega (arith, word-bytes goal)

  over-all : (code others : List Step) → bytes_before (code ++ others) (length code) ≡ size code
  over-all [] others = refl
  over-all (s ∷ code) others = let rest = over-all code others in omega (arith, rest)

  conditional : (likely : Bool) (test : BranchName) (target second : ℕ) → Operates r (conditional_exit span behind likely test target second)
  conditional true test target second = two target second
  conditional false test target second =
      let over = length (go span target) in
      let others = go span target ++ next_exit span behind second in
      let small = go-small target in
      let all = over-all (go span target) (next_exit span behind second) in
      let sum = length-append (go span target) (next_exit span behind second) in
      and_from (reaches others over) (have_operations r others) (reaches-from others over (omega (arith, sum)) (omega (arith, small, all)))
      (to target (next_exit span behind second) (next second))

  branch : (i : Inst) (at : ℕ) → Operates r (branch_exit span behind i at)
  branch (inst.BranchSign name rs imm) at = conditional (sign_likely name) (sign_test name) (branch_target at imm) (behind_slot at)
  branch (inst.BranchEqual name rs rt imm) at = conditional (equal_likely name) (equal_test name) (branch_target at imm) (behind_slot at)
  branch (inst.BranchZero name rs imm) at = conditional (zero_likely name) (zero_test name) (branch_target at imm) (behind_slot at)
  branch (inst.Jump name index) at = next (jump_target at index)
  branch (inst.JumpRegister rs) at = rw (lt-ltb pc_field (length r.fields) (omega (arith, fields))) refl
  branch (inst.JumpAndLinkRegister rs rd) at = rw (lt-ltb pc_field (length r.fields) (omega (arith, fields))) refl
  branch other at = refl

  passing : (i : Inst) (at : ℕ) → Operates r (passing_exit span behind i at)
  passing i at = either (is_likely i) (last_way span behind (behind_slot at)) (returns ∷ []) (last (behind_slot at)) refl

  pub exit-operates : (unit : Unit) (at : ℕ) → Operates r (exit_code span behind unit at)
  exit-operates (Plain i) at = next (next_address at)
  exit-operates (Branch i slot) at = branch i at
  exit-operates (SlotMissing i) at = passing i at
  exit-operates (SlotIsBranch i word) at = passing i at
  exit-operates Call at = next (next_address at)
  exit-operates (Trap kind value) at = refl
