-- No instruction has much code.
use Rattle.std.proofs.Common.{◌≤◌, arith}
use Rattle.mips_definition.specs.declared.names.arithmetic_name.ArithmeticName.TheVariants.{Add}
use Rattle.mips_definition.specs.declared.names.arithmetic_immediate_name.ArithmeticImmediateName.TheVariants.{Addi}
use Rattle.mips_definition.specs.declared.names.load_name.LoadName.TheVariants.{Lwl}
use Rattle.mips_definition.specs.declared.names.branch_equal_name.BranchEqualName.TheVariants.{Beq}
use Rattle.mips_definition.specs.declared.names.branch_zero_name.BranchZeroName.TheVariants.{Blez}
use Rattle.mips_definition.specs.declared.names.branch_sign_name.BranchSignName.TheVariants.{Bltz}
use Rattle.mips_definition.specs.declared.names.jump_name.JumpName.TheVariants.{J}
use Rattle.mips_definition.specs.declared.inst.Inst.{Inst}
use Rattle.mips_definition.specs.declared.inst.Inst.TheVariants as inst
use Rattle.emit_limits.specs.Weights.{instruction_bytes}

pub instruction-small : (i : Inst) → instruction_bytes i ≤ 38
instruction-small (inst.Arithmetic Add rs rt rd) = omega arith
instruction-small (inst.BranchSign Bltz rs imm) = omega arith
instruction-small (inst.Jump J index) = omega arith
instruction-small (inst.BranchEqual Beq rs rt imm) = omega arith
instruction-small (inst.BranchZero Blez rs imm) = omega arith
instruction-small (inst.ArithmeticImmediate Addi rs rt imm) = omega arith
instruction-small (inst.Load Lwl rs rt imm) = omega arith
instruction-small _ = omega arith
