-- The code of each unit has at most eight constants that take slots, with where its way leads: four of an instruction, and four of a branch
-- before its slot.
use Rattle.std.proofs.Common.{ℕ, ◌+◌, ◌≤◌, Bool, true, false, arith}
use Rattle.mips_definition.specs.Effect.{fetch_fault, branch_in_slot_fault}
use Rattle.mips_definition.specs.Targets.{branch_target, jump_target}
use Rattle.mips_definition.specs.declared.names.arithmetic_name.ArithmeticName.TheVariants.{Add}
use Rattle.mips_definition.specs.declared.names.arithmetic_immediate_name.ArithmeticImmediateName.TheVariants.{Addi}
use Rattle.mips_definition.specs.declared.names.logical_immediate_name.LogicalImmediateName.TheVariants.{Andi}
use Rattle.mips_definition.specs.declared.names.load_name.LoadName.TheVariants.{Lwl}
use Rattle.mips_definition.specs.declared.names.trap_name.TrapName.TheVariants.{Tgeu}
use Rattle.mips_definition.specs.declared.names.trap_immediate_name.TrapImmediateName.TheVariants.{Tgeiu}
use Rattle.mips_definition.specs.declared.names.branch_equal_name.BranchEqualName.TheVariants.{Beq, Bne}
use Rattle.mips_definition.specs.declared.names.branch_zero_name.BranchZeroName.TheVariants.{Blez, Bgtz}
use Rattle.mips_definition.specs.declared.names.branch_sign_name.BranchSignName.TheVariants.{Bltz, Bgez, Bltzal, Bgezal}
use Rattle.mips_definition.specs.declared.names.jump_name.JumpName.TheVariants.{J, Jal}
use Rattle.mips_definition.specs.declared.inst.Inst.{Inst}
use Rattle.mips_definition.specs.declared.inst.Inst.TheVariants as inst
use Rattle.delay_slots.specs.declared.unit.Unit.{Unit}
use Rattle.delay_slots.specs.declared.unit.Unit.TheVariants.{Plain, Branch, SlotMissing, SlotIsBranch, Call}
use Rattle.emit_instructions.specs.Branching.{behind_slot}
use Rattle.emit_instructions.specs.Units.{unit_code, next_address}
use Rattle.emit_instructions.proofs.Forms.{Form, most}
use Rattle.emit_instructions.proofs.InstructionForms.{fault_form, instruction_form}
use Rattle.emit_instructions.proofs.UnitForms.{transfer_form, unit_form, unit-weighs}
use Rattle.emit_limits.proofs.Counting.{all_slots}
use Rattle.emit_limits.proofs.StepSlots.{taken, word-slots, slots}
use Rattle.emit_limits.proofs.Ways.{conditional_own, branch_own, own_goals}

instruction-few : (i : Inst) (at : ℕ) → most slots (instruction_form i at) ≤ 4
instruction-few (inst.Arithmetic Add rs rt rd) at = omega arith
instruction-few (inst.ArithmeticImmediate Addi rs rt imm) at = omega arith
instruction-few (inst.LogicalImmediate Andi rs rt imm) at = omega arith
instruction-few (inst.Load Lwl rs rt imm) at = omega arith
instruction-few (inst.Trap Tgeu rs rt code) at = omega arith
instruction-few (inst.TrapImmediate Tgeiu rs imm) at = omega arith
instruction-few _ at = omega arith

-- with the goals of a branch that its way pushes
conditional-own-few : (likely : Bool) (target second : ℕ) → all_slots (conditional_own likely target second) ≤ 2
conditional-own-few true target second = omega arith
conditional-own-few false target second = omega (arith, word-slots target, word-slots second)

transfer-few : (i : Inst) (at : ℕ) (slot : Form) → most slots (transfer_form i at slot) + all_slots (branch_own i at) ≤ 4 + most slots slot
transfer-few (inst.BranchEqual Beq rs rt imm) at slot = omega (arith, conditional-own-few false (branch_target at imm) (behind_slot at))
transfer-few (inst.BranchEqual Bne rs rt imm) at slot = omega (arith, conditional-own-few false (branch_target at imm) (behind_slot at))
transfer-few (inst.BranchZero Blez rs imm) at slot = omega (arith, conditional-own-few false (branch_target at imm) (behind_slot at))
transfer-few (inst.BranchZero Bgtz rs imm) at slot = omega (arith, conditional-own-few false (branch_target at imm) (behind_slot at))
transfer-few (inst.BranchSign Bltz rs imm) at slot = omega (arith, conditional-own-few false (branch_target at imm) (behind_slot at))
transfer-few (inst.BranchSign Bgez rs imm) at slot = omega (arith, conditional-own-few false (branch_target at imm) (behind_slot at))
transfer-few (inst.BranchSign Bltzal rs imm) at slot = omega (arith, conditional-own-few false (branch_target at imm) (behind_slot at))
transfer-few (inst.BranchSign Bgezal rs imm) at slot = omega (arith, conditional-own-few false (branch_target at imm) (behind_slot at))
transfer-few (inst.Jump J index) at slot = omega (arith, word-slots (jump_target at index))
transfer-few (inst.Jump Jal index) at slot = omega (arith, word-slots (jump_target at index))
transfer-few _ at slot = omega arith

-- without them
transfer-slots : (i : Inst) (at : ℕ) (slot : Form) → most slots (transfer_form i at slot) ≤ 4 + most slots slot
transfer-slots i at slot = omega (arith, transfer-few i at slot)

unit-few : (unit : Unit) (at : ℕ) → most slots (unit_form unit at) + all_slots (own_goals unit at) ≤ 8
unit-few (Plain i) at =
    let next : all_slots (own_goals (Plain i) at) ≤ 1 = word-slots (next_address at) in
    omega (arith, instruction-few i at, next)
unit-few (Branch i slot) at =
    omega (arith, transfer-few i at (instruction_form slot (next_address at)), instruction-few slot (next_address at))
unit-few (SlotMissing i) at = omega (arith, transfer-slots i at (fault_form fetch_fault (next_address at) (next_address at)))
unit-few (SlotIsBranch i word) at = omega (arith, transfer-slots i at (fault_form branch_in_slot_fault (next_address at) word))
unit-few Call at =
    let next : all_slots (own_goals Call at) ≤ 1 = word-slots (next_address at) in
    omega (arith, next)
unit-few _ at = omega arith

pub unit-slots : (bank : ℕ) (unit : Unit) (at : ℕ) → taken (unit_code bank unit at) + all_slots (own_goals unit at) ≤ 8
unit-slots bank unit at = omega (arith, unit-weighs slots bank unit at, unit-few unit at)
