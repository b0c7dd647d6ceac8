-- The code of each unit and the way from it keep to their bytes.
use Rattle.std.proofs.Common.{ℕ, ◌+◌, ◌≤◌, ◌||◌, Bool, true, false, [], ◌∷◌, Option, arith}
use Rattle.mips_definition.specs.Branches.{equal_likely, zero_likely, sign_likely}
use Rattle.mips_definition.specs.Effect.{fetch_fault, branch_in_slot_fault}
use Rattle.mips_definition.specs.Targets.{branch_target, jump_target}
use Rattle.mips_definition.specs.declared.names.arithmetic_name.ArithmeticName.TheVariants.{Add}
use Rattle.mips_definition.specs.declared.names.arithmetic_immediate_name.ArithmeticImmediateName.TheVariants.{Addi}
use Rattle.mips_definition.specs.declared.names.logical_immediate_name.LogicalImmediateName.TheVariants.{Andi}
use Rattle.mips_definition.specs.declared.names.load_name.LoadName.TheVariants.{Lwl}
use Rattle.mips_definition.specs.declared.names.trap_name.TrapName.TheVariants.{Tgeu}
use Rattle.mips_definition.specs.declared.names.trap_immediate_name.TrapImmediateName.TheVariants.{Tgeiu}
use Rattle.mips_definition.specs.declared.names.branch_equal_name.BranchEqualName.TheVariants.{Beq}
use Rattle.mips_definition.specs.declared.names.branch_zero_name.BranchZeroName.TheVariants.{Blez}
use Rattle.mips_definition.specs.declared.names.branch_sign_name.BranchSignName.TheVariants.{Bltz}
use Rattle.mips_definition.specs.declared.names.jump_name.JumpName.TheVariants.{J}
use Rattle.mips_definition.specs.declared.inst.Inst.{Inst}
use Rattle.mips_definition.specs.declared.inst.Inst.TheVariants as inst
use Rattle.delay_slots.specs.declared.unit.Unit.{Unit}
use Rattle.delay_slots.specs.declared.unit.Unit.TheVariants.{Plain, Branch, SlotMissing, SlotIsBranch, Call, Trap}
use Rattle.jvm_definition.specs.declared.branch_name.BranchName.{BranchName}
use Rattle.jvm_definition.specs.declared.branch_name.BranchName.TheVariants.{IfIcmpne}
use Rattle.jvm_definition.specs.declared.local_kind.LocalKind.TheVariants as local_kinds
use Rattle.jvm_definition.specs.declared.instruction.Instruction.TheVariants.{Load}
use Rattle.emit_steps.specs.declared.step.Step.TheVariants.{Does, Skips, Leaves}
use Rattle.emit_steps.specs.Widths.{width, size}
use Rattle.emit_layout.specs.FieldNumbers.{pc_field}
use Rattle.emit_instructions.specs.Access.{push_word, put_field}
use Rattle.emit_instructions.specs.Branching.{behind_slot, equal_test, zero_test, sign_test}
use Rattle.emit_instructions.specs.Units.{unit_code, next_address}
use Rattle.emit_instructions.proofs.Forms.{Form, either-most, most}
use Rattle.emit_instructions.proofs.InstructionForms.{fault_form, instruction_form}
use Rattle.emit_instructions.proofs.UnitForms.{transfer_form, unit_form, unit-weighs}
use Rattle.word_emitter.specs.declared.extent.Extent.{Extent}
use Rattle.word_emitter.specs.Pieces.{is_likely}
use Rattle.emit_steps.specs.Returning.{returns}
use Rattle.word_emitter.specs.Exits.{has, follows, go, next_exit, arrive, last_way, two_ways, conditional_exit, branch_exit, passing_exit, exit_code}
use Rattle.emit_limits.specs.Weights.{instruction_bytes, unit_bytes, exit_bytes, branch_exit_bytes}
use Rattle.emit_limits.proofs.StepSizes.{word-bytes, size-append, sizes}

-- ---- units

instruction-fits : (i : Inst) (at : ℕ) → most sizes (instruction_form i at) ≤ instruction_bytes i
instruction-fits (inst.Arithmetic Add rs rt rd) at = omega arith
instruction-fits (inst.ArithmeticImmediate Addi rs rt imm) at = omega arith
instruction-fits (inst.LogicalImmediate Andi rs rt imm) at = omega arith
instruction-fits (inst.Load Lwl rs rt imm) at = omega arith
instruction-fits (inst.Trap Tgeu rs rt code) at = omega arith
instruction-fits (inst.TrapImmediate Tgeiu rs imm) at = omega arith
instruction-fits _ at = omega arith

transfer-fits : (i : Inst) (at : ℕ) (slot : Form) → most sizes (transfer_form i at slot) ≤ instruction_bytes i + most sizes slot
transfer-fits (inst.BranchEqual Beq rs rt imm) at slot = omega arith
transfer-fits (inst.BranchZero Blez rs imm) at slot = omega arith
transfer-fits (inst.BranchSign Bltz rs imm) at slot = omega arith
transfer-fits (inst.Jump J index) at slot = omega arith
transfer-fits _ at slot = omega arith

unit-fits : (unit : Unit) (at : ℕ) → most sizes (unit_form unit at) ≤ unit_bytes unit
unit-fits (Plain i) at = instruction-fits i at
unit-fits (Branch i slot) at =
    omega (arith, transfer-fits i at (instruction_form slot (next_address at)), instruction-fits slot (next_address at))
unit-fits (SlotMissing i) at = omega (arith, transfer-fits i at (fault_form fetch_fault (next_address at) (next_address at)))
unit-fits (SlotIsBranch i word) at = omega (arith, transfer-fits i at (fault_form branch_in_slot_fault (next_address at) word))
unit-fits _ at = omega arith

pub unit-size : (bank : ℕ) (unit : Unit) (at : ℕ) → size (unit_code bank unit at) ≤ unit_bytes unit
unit-size bank unit at = omega (arith, unit-weighs sizes bank unit at, unit-fits unit at)

-- ---- ways

arrive-bytes : (span : Extent) (goal : ℕ) → width (arrive span goal) ≤ 5
arrive-bytes span goal = either-most width (has span goal) (Leaves goal) returns 5 (omega arith) (omega arith)

last-size : (span : Extent) (behind : Option ℕ) (goal : ℕ) → size (last_way span behind goal) ≤ 5
last-size span behind goal =
    either-most size (follows behind goal) [] (arrive span goal ∷ []) 5 (omega arith) (omega (arith, arrive-bytes span goal))

two-size : (span : Extent) (behind : Option ℕ) (first second : ℕ) → size (two_ways span behind first second) ≤ 17
two-size span behind first second =
    let looks = Does (Load local_kinds.Int 0) ∷ push_word first ∷ Skips IfIcmpne 1 ∷ arrive span first ∷ last_way span behind second in
    let a : size looks ≤ 17 = omega (arith, word-bytes first, arrive-bytes span first, last-size span behind second) in
    either-most size (has span first || has span second) looks (returns ∷ []) 17 a (omega arith)

go-size : (span : Extent) (goal : ℕ) → size (go span goal) ≤ 7
go-size span goal =
    either-most size (has span goal) (Leaves goal ∷ []) (push_word goal ∷ put_field pc_field ∷ returns ∷ []) 7 (omega arith)
    (omega (arith, word-bytes goal))

next-size : (span : Extent) (behind : Option ℕ) (next : ℕ) → size (next_exit span behind next) ≤ 7
next-size span behind next = either-most size (follows behind next) [] (go span next) 7 (omega arith) (go-size span next)

conditional-size : (span : Extent) (behind : Option ℕ) (likely : Bool) (test : BranchName) (target second : ℕ)
    → size (conditional_exit span behind likely test target second) ≤ 17
conditional-size span behind true test target second = two-size span behind target second
conditional-size span behind false test target second =
    omega (
      arith,
      size-append (go span target) (next_exit span behind second),
      go-size span target,
      next-size span behind second,
    )

branch-exit-size : (span : Extent) (behind : Option ℕ) (i : Inst) (at : ℕ) → size (branch_exit span behind i at) ≤ branch_exit_bytes i
branch-exit-size span behind (inst.BranchSign name rs imm) at =
    conditional-size span behind (sign_likely name) (sign_test name) (branch_target at imm) (behind_slot at)
branch-exit-size span behind (inst.BranchEqual name rs rt imm) at =
    conditional-size span behind (equal_likely name) (equal_test name) (branch_target at imm) (behind_slot at)
branch-exit-size span behind (inst.BranchZero name rs imm) at =
    conditional-size span behind (zero_likely name) (zero_test name) (branch_target at imm) (behind_slot at)
branch-exit-size span behind (inst.Jump name index) at = next-size span behind (jump_target at index)
branch-exit-size span behind other at = omega arith

passing-size : (span : Extent) (behind : Option ℕ) (i : Inst) (at : ℕ) → size (passing_exit span behind i at) ≤ 5
passing-size span behind i at =
    either-most size (is_likely i) (last_way span behind (behind_slot at)) (returns ∷ []) 5 (last-size span behind (behind_slot at)) (omega arith)

pub exit-size : (span : Extent) (behind : Option ℕ) (unit : Unit) (at : ℕ) → size (exit_code span behind unit at) ≤ exit_bytes unit
exit-size span behind (Plain i) at = next-size span behind (next_address at)
exit-size span behind (Branch i slot) at = branch-exit-size span behind i at
exit-size span behind (SlotMissing i) at = passing-size span behind i at
exit-size span behind (SlotIsBranch i word) at = passing-size span behind i at
exit-size span behind Call at = next-size span behind (next_address at)
exit-size span behind (Trap kind value) at = omega arith
