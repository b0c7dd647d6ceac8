-- The mnemonics as words of lines.
use Rattle.std.proofs.Common.{◌≡◌, ℕ, List, true, refl}
use Rattle.asm_lines.specs.Lines.{Instruction, by_word}
use Rattle.asm_lines.specs.Mnemonics.{mnemonic_text}
use Rattle.asm_lines.specs.declared.mnemonic.Mnemonic.{Mnemonic}
use Rattle.asm_lines.specs.declared.mnemonic.Mnemonic.TheVariants as mnemonic
use Rattle.mips_definition.specs.declared.names.arithmetic_name.ArithmeticName.TheVariants.{Add, Addu, Sub, Subu, And, Or, Xor, Nor, Slt, Sltu}
use Rattle.mips_definition.specs.declared.names.variable_shift_name.VariableShiftName.TheVariants.{Sllv, Srlv, Srav}
use Rattle.mips_definition.specs.declared.names.shift_name.ShiftName.TheVariants.{Sll, Srl, Sra}
use Rattle.mips_definition.specs.declared.names.hi_lo.HiLo.TheVariants.{Hi, Lo}
use Rattle.mips_definition.specs.declared.names.product_name.ProductName.TheVariants.{Mult, Multu, Div, Divu}
use Rattle.mips_definition.specs.declared.names.branch_sign_name.BranchSignName.TheVariants.{Bltz, Bgez, Bltzal, Bgezal, Bltzl, Bgezl, Bltzall, Bgezall}
use Rattle.mips_definition.specs.declared.names.jump_name.JumpName.TheVariants.{J, Jal}
use Rattle.mips_definition.specs.declared.names.branch_equal_name.BranchEqualName.TheVariants.{Beq, Bne, Beql, Bnel}
use Rattle.mips_definition.specs.declared.names.branch_zero_name.BranchZeroName.TheVariants.{Blez, Bgtz, Blezl, Bgtzl}
use Rattle.mips_definition.specs.declared.names.arithmetic_immediate_name.ArithmeticImmediateName.TheVariants.{Addi, Addiu, Slti, Sltiu}
use Rattle.mips_definition.specs.declared.names.logical_immediate_name.LogicalImmediateName.TheVariants.{Andi, Ori, Xori}
use Rattle.mips_definition.specs.declared.names.load_name.LoadName.TheVariants.{Lb, Lh, Lwl, Lw, Lbu, Lhu, Lwr}
use Rattle.mips_definition.specs.declared.names.store_name.StoreName.TheVariants.{Sb, Sh, Swl, Sw, Swr}
use Rattle.mips_definition.specs.declared.names.trap_name.TrapName.TheVariants.{Tge, Tgeu, Tlt, Tltu, Teq, Tne}
use Rattle.mips_definition.specs.declared.names.trap_immediate_name.TrapImmediateName.TheVariants.{Tgei, Tgeiu, Tlti, Tltiu, Teqi, Tnei}
use Rattle.mips_asm.proofs.PrintLines.{is_operand}

-- a mnemonic's word is the mnemonic
pub mnemonic_word : (m : Mnemonic) (rest : List ℕ) → by_word (mnemonic_text m) rest ≡ Instruction m rest
mnemonic_word (mnemonic.Arithmetic Add) rest = refl
mnemonic_word (mnemonic.Arithmetic Addu) rest = refl
mnemonic_word (mnemonic.Arithmetic Sub) rest = refl
mnemonic_word (mnemonic.Arithmetic Subu) rest = refl
mnemonic_word (mnemonic.Arithmetic And) rest = refl
mnemonic_word (mnemonic.Arithmetic Or) rest = refl
mnemonic_word (mnemonic.Arithmetic Xor) rest = refl
mnemonic_word (mnemonic.Arithmetic Nor) rest = refl
mnemonic_word (mnemonic.Arithmetic Slt) rest = refl
mnemonic_word (mnemonic.Arithmetic Sltu) rest = refl
mnemonic_word (mnemonic.VariableShift Sllv) rest = refl
mnemonic_word (mnemonic.VariableShift Srlv) rest = refl
mnemonic_word (mnemonic.VariableShift Srav) rest = refl
mnemonic_word (mnemonic.Shift Sll) rest = refl
mnemonic_word (mnemonic.Shift Srl) rest = refl
mnemonic_word (mnemonic.Shift Sra) rest = refl
mnemonic_word mnemonic.JumpRegister rest = refl
mnemonic_word mnemonic.JumpAndLinkRegister rest = refl
mnemonic_word mnemonic.Syscall rest = refl
mnemonic_word mnemonic.Break rest = refl
mnemonic_word (mnemonic.MoveFrom Hi) rest = refl
mnemonic_word (mnemonic.MoveFrom Lo) rest = refl
mnemonic_word (mnemonic.MoveTo Hi) rest = refl
mnemonic_word (mnemonic.MoveTo Lo) rest = refl
mnemonic_word (mnemonic.Product Mult) rest = refl
mnemonic_word (mnemonic.Product Multu) rest = refl
mnemonic_word (mnemonic.Product Div) rest = refl
mnemonic_word (mnemonic.Product Divu) rest = refl
mnemonic_word (mnemonic.BranchSign Bltz) rest = refl
mnemonic_word (mnemonic.BranchSign Bgez) rest = refl
mnemonic_word (mnemonic.BranchSign Bltzal) rest = refl
mnemonic_word (mnemonic.BranchSign Bgezal) rest = refl
mnemonic_word (mnemonic.BranchSign Bltzl) rest = refl
mnemonic_word (mnemonic.BranchSign Bgezl) rest = refl
mnemonic_word (mnemonic.BranchSign Bltzall) rest = refl
mnemonic_word (mnemonic.BranchSign Bgezall) rest = refl
mnemonic_word (mnemonic.Jump J) rest = refl
mnemonic_word (mnemonic.Jump Jal) rest = refl
mnemonic_word (mnemonic.BranchEqual Beq) rest = refl
mnemonic_word (mnemonic.BranchEqual Bne) rest = refl
mnemonic_word (mnemonic.BranchEqual Beql) rest = refl
mnemonic_word (mnemonic.BranchEqual Bnel) rest = refl
mnemonic_word (mnemonic.BranchZero Blez) rest = refl
mnemonic_word (mnemonic.BranchZero Bgtz) rest = refl
mnemonic_word (mnemonic.BranchZero Blezl) rest = refl
mnemonic_word (mnemonic.BranchZero Bgtzl) rest = refl
mnemonic_word (mnemonic.ArithmeticImmediate Addi) rest = refl
mnemonic_word (mnemonic.ArithmeticImmediate Addiu) rest = refl
mnemonic_word (mnemonic.ArithmeticImmediate Slti) rest = refl
mnemonic_word (mnemonic.ArithmeticImmediate Sltiu) rest = refl
mnemonic_word (mnemonic.LogicalImmediate Andi) rest = refl
mnemonic_word (mnemonic.LogicalImmediate Ori) rest = refl
mnemonic_word (mnemonic.LogicalImmediate Xori) rest = refl
mnemonic_word mnemonic.LoadUpper rest = refl
mnemonic_word (mnemonic.Load Lb) rest = refl
mnemonic_word (mnemonic.Load Lh) rest = refl
mnemonic_word (mnemonic.Load Lwl) rest = refl
mnemonic_word (mnemonic.Load Lw) rest = refl
mnemonic_word (mnemonic.Load Lbu) rest = refl
mnemonic_word (mnemonic.Load Lhu) rest = refl
mnemonic_word (mnemonic.Load Lwr) rest = refl
mnemonic_word (mnemonic.Store Sb) rest = refl
mnemonic_word (mnemonic.Store Sh) rest = refl
mnemonic_word (mnemonic.Store Swl) rest = refl
mnemonic_word (mnemonic.Store Sw) rest = refl
mnemonic_word (mnemonic.Store Swr) rest = refl
mnemonic_word (mnemonic.Trap Tge) rest = refl
mnemonic_word (mnemonic.Trap Tgeu) rest = refl
mnemonic_word (mnemonic.Trap Tlt) rest = refl
mnemonic_word (mnemonic.Trap Tltu) rest = refl
mnemonic_word (mnemonic.Trap Teq) rest = refl
mnemonic_word (mnemonic.Trap Tne) rest = refl
mnemonic_word (mnemonic.TrapImmediate Tgei) rest = refl
mnemonic_word (mnemonic.TrapImmediate Tgeiu) rest = refl
mnemonic_word (mnemonic.TrapImmediate Tlti) rest = refl
mnemonic_word (mnemonic.TrapImmediate Tltiu) rest = refl
mnemonic_word (mnemonic.TrapImmediate Teqi) rest = refl
mnemonic_word (mnemonic.TrapImmediate Tnei) rest = refl
mnemonic_word mnemonic.Sync rest = refl
mnemonic_word mnemonic.LoadLinked rest = refl
mnemonic_word mnemonic.StoreConditional rest = refl

pub mnemonic_plain : (m : Mnemonic) → is_operand (mnemonic_text m) ≡ true
mnemonic_plain (mnemonic.Arithmetic Add) = refl
mnemonic_plain (mnemonic.Arithmetic Addu) = refl
mnemonic_plain (mnemonic.Arithmetic Sub) = refl
mnemonic_plain (mnemonic.Arithmetic Subu) = refl
mnemonic_plain (mnemonic.Arithmetic And) = refl
mnemonic_plain (mnemonic.Arithmetic Or) = refl
mnemonic_plain (mnemonic.Arithmetic Xor) = refl
mnemonic_plain (mnemonic.Arithmetic Nor) = refl
mnemonic_plain (mnemonic.Arithmetic Slt) = refl
mnemonic_plain (mnemonic.Arithmetic Sltu) = refl
mnemonic_plain (mnemonic.VariableShift Sllv) = refl
mnemonic_plain (mnemonic.VariableShift Srlv) = refl
mnemonic_plain (mnemonic.VariableShift Srav) = refl
mnemonic_plain (mnemonic.Shift Sll) = refl
mnemonic_plain (mnemonic.Shift Srl) = refl
mnemonic_plain (mnemonic.Shift Sra) = refl
mnemonic_plain mnemonic.JumpRegister = refl
mnemonic_plain mnemonic.JumpAndLinkRegister = refl
mnemonic_plain mnemonic.Syscall = refl
mnemonic_plain mnemonic.Break = refl
mnemonic_plain (mnemonic.MoveFrom Hi) = refl
mnemonic_plain (mnemonic.MoveFrom Lo) = refl
mnemonic_plain (mnemonic.MoveTo Hi) = refl
mnemonic_plain (mnemonic.MoveTo Lo) = refl
mnemonic_plain (mnemonic.Product Mult) = refl
mnemonic_plain (mnemonic.Product Multu) = refl
mnemonic_plain (mnemonic.Product Div) = refl
mnemonic_plain (mnemonic.Product Divu) = refl
mnemonic_plain (mnemonic.BranchSign Bltz) = refl
mnemonic_plain (mnemonic.BranchSign Bgez) = refl
mnemonic_plain (mnemonic.BranchSign Bltzal) = refl
mnemonic_plain (mnemonic.BranchSign Bgezal) = refl
mnemonic_plain (mnemonic.BranchSign Bltzl) = refl
mnemonic_plain (mnemonic.BranchSign Bgezl) = refl
mnemonic_plain (mnemonic.BranchSign Bltzall) = refl
mnemonic_plain (mnemonic.BranchSign Bgezall) = refl
mnemonic_plain (mnemonic.Jump J) = refl
mnemonic_plain (mnemonic.Jump Jal) = refl
mnemonic_plain (mnemonic.BranchEqual Beq) = refl
mnemonic_plain (mnemonic.BranchEqual Bne) = refl
mnemonic_plain (mnemonic.BranchEqual Beql) = refl
mnemonic_plain (mnemonic.BranchEqual Bnel) = refl
mnemonic_plain (mnemonic.BranchZero Blez) = refl
mnemonic_plain (mnemonic.BranchZero Bgtz) = refl
mnemonic_plain (mnemonic.BranchZero Blezl) = refl
mnemonic_plain (mnemonic.BranchZero Bgtzl) = refl
mnemonic_plain (mnemonic.ArithmeticImmediate Addi) = refl
mnemonic_plain (mnemonic.ArithmeticImmediate Addiu) = refl
mnemonic_plain (mnemonic.ArithmeticImmediate Slti) = refl
mnemonic_plain (mnemonic.ArithmeticImmediate Sltiu) = refl
mnemonic_plain (mnemonic.LogicalImmediate Andi) = refl
mnemonic_plain (mnemonic.LogicalImmediate Ori) = refl
mnemonic_plain (mnemonic.LogicalImmediate Xori) = refl
mnemonic_plain mnemonic.LoadUpper = refl
mnemonic_plain (mnemonic.Load Lb) = refl
mnemonic_plain (mnemonic.Load Lh) = refl
mnemonic_plain (mnemonic.Load Lwl) = refl
mnemonic_plain (mnemonic.Load Lw) = refl
mnemonic_plain (mnemonic.Load Lbu) = refl
mnemonic_plain (mnemonic.Load Lhu) = refl
mnemonic_plain (mnemonic.Load Lwr) = refl
mnemonic_plain (mnemonic.Store Sb) = refl
mnemonic_plain (mnemonic.Store Sh) = refl
mnemonic_plain (mnemonic.Store Swl) = refl
mnemonic_plain (mnemonic.Store Sw) = refl
mnemonic_plain (mnemonic.Store Swr) = refl
mnemonic_plain (mnemonic.Trap Tge) = refl
mnemonic_plain (mnemonic.Trap Tgeu) = refl
mnemonic_plain (mnemonic.Trap Tlt) = refl
mnemonic_plain (mnemonic.Trap Tltu) = refl
mnemonic_plain (mnemonic.Trap Teq) = refl
mnemonic_plain (mnemonic.Trap Tne) = refl
mnemonic_plain (mnemonic.TrapImmediate Tgei) = refl
mnemonic_plain (mnemonic.TrapImmediate Tgeiu) = refl
mnemonic_plain (mnemonic.TrapImmediate Tlti) = refl
mnemonic_plain (mnemonic.TrapImmediate Tltiu) = refl
mnemonic_plain (mnemonic.TrapImmediate Teqi) = refl
mnemonic_plain (mnemonic.TrapImmediate Tnei) = refl
mnemonic_plain mnemonic.Sync = refl
mnemonic_plain mnemonic.LoadLinked = refl
mnemonic_plain mnemonic.StoreConditional = refl
