-- The words of the instructions: how the fields are put together (MIPS II instruction formats).
use Rattle.std.specs.Prelude.{ℕ, ◌+◌, ◌*◌, ◌%◌, ◌^◌}
use Rattle.mips_definition.specs.declared.inst.Inst.{Inst}
use Rattle.mips_definition.specs.declared.inst.Inst.TheVariants.{Arithmetic, VariableShift, Shift, JumpRegister, JumpAndLinkRegister, Syscall, Break, MoveFrom, MoveTo, Product, BranchSign, Jump, BranchEqual, BranchZero, ArithmeticImmediate, LogicalImmediate, LoadUpper, Load, Store, Trap, TrapImmediate, Sync, LoadLinked, StoreConditional, Reserved, Float}
use Rattle.mips_definition.specs.declared.names.arithmetic_name.ArithmeticName.{ArithmeticName}
use Rattle.mips_definition.specs.declared.names.arithmetic_name.ArithmeticName.TheVariants.{Add, Addu, Sub, Subu, And, Or, Xor, Nor, Slt, Sltu}
use Rattle.mips_definition.specs.declared.names.variable_shift_name.VariableShiftName.{VariableShiftName}
use Rattle.mips_definition.specs.declared.names.variable_shift_name.VariableShiftName.TheVariants.{Sllv, Srlv, Srav}
use Rattle.mips_definition.specs.declared.names.shift_name.ShiftName.{ShiftName}
use Rattle.mips_definition.specs.declared.names.shift_name.ShiftName.TheVariants.{Sll, Srl, Sra}
use Rattle.mips_definition.specs.declared.names.hi_lo.HiLo.{HiLo}
use Rattle.mips_definition.specs.declared.names.hi_lo.HiLo.TheVariants.{Hi, Lo}
use Rattle.mips_definition.specs.declared.names.product_name.ProductName.{ProductName}
use Rattle.mips_definition.specs.declared.names.product_name.ProductName.TheVariants.{Mult, Multu, Div, Divu}
use Rattle.mips_definition.specs.declared.names.branch_sign_name.BranchSignName.{BranchSignName}
use Rattle.mips_definition.specs.declared.names.branch_sign_name.BranchSignName.TheVariants.{Bltz, Bgez, Bltzal, Bgezal, Bltzl, Bgezl, Bltzall, Bgezall}
use Rattle.mips_definition.specs.declared.names.jump_name.JumpName.{JumpName}
use Rattle.mips_definition.specs.declared.names.jump_name.JumpName.TheVariants.{J, Jal}
use Rattle.mips_definition.specs.declared.names.branch_equal_name.BranchEqualName.{BranchEqualName}
use Rattle.mips_definition.specs.declared.names.branch_equal_name.BranchEqualName.TheVariants.{Beq, Bne, Beql, Bnel}
use Rattle.mips_definition.specs.declared.names.branch_zero_name.BranchZeroName.{BranchZeroName}
use Rattle.mips_definition.specs.declared.names.branch_zero_name.BranchZeroName.TheVariants.{Blez, Bgtz, Blezl, Bgtzl}
use Rattle.mips_definition.specs.declared.names.arithmetic_immediate_name.ArithmeticImmediateName.{ArithmeticImmediateName}
use Rattle.mips_definition.specs.declared.names.arithmetic_immediate_name.ArithmeticImmediateName.TheVariants.{Addi, Addiu, Slti, Sltiu}
use Rattle.mips_definition.specs.declared.names.logical_immediate_name.LogicalImmediateName.{LogicalImmediateName}
use Rattle.mips_definition.specs.declared.names.logical_immediate_name.LogicalImmediateName.TheVariants.{Andi, Ori, Xori}
use Rattle.mips_definition.specs.declared.names.load_name.LoadName.{LoadName}
use Rattle.mips_definition.specs.declared.names.load_name.LoadName.TheVariants.{Lb, Lh, Lwl, Lw, Lbu, Lhu, Lwr}
use Rattle.mips_definition.specs.declared.names.store_name.StoreName.{StoreName}
use Rattle.mips_definition.specs.declared.names.store_name.StoreName.TheVariants.{Sb, Sh, Swl, Sw, Swr}
use Rattle.mips_definition.specs.declared.names.trap_name.TrapName.{TrapName}
use Rattle.mips_definition.specs.declared.names.trap_name.TrapName.TheVariants.{Tge, Tgeu, Tlt, Tltu, Teq, Tne}
use Rattle.mips_definition.specs.declared.names.trap_immediate_name.TrapImmediateName.{TrapImmediateName}
use Rattle.mips_definition.specs.declared.names.trap_immediate_name.TrapImmediateName.TheVariants.{Tgei, Tgeiu, Tlti, Tltiu, Teqi, Tnei}

-- ---- the formats; a register, a shift amount, an index or a code is cut to the bits of its field
abbrev pub register_word : ℕ → ℕ → ℕ → ℕ → ℕ → ℕ → ℕ
register_word op rs rt rd sa funct =
    op * 2 ^ 26 + rs % 2 ^ 5 * 2 ^ 21 + rt % 2 ^ 5 * 2 ^ 16 + rd % 2 ^ 5 * 2 ^ 11 + sa % 2 ^ 5
    * 2 ^ 6 + funct

abbrev pub immediate_word : ℕ → ℕ → ℕ → ℕ → ℕ
immediate_word op rs rt imm = op * 2 ^ 26 + rs % 2 ^ 5 * 2 ^ 21 + rt % 2 ^ 5 * 2 ^ 16 + imm

abbrev pub jump_word : ℕ → ℕ → ℕ
jump_word op index = op * 2 ^ 26 + index % 2 ^ 26

abbrev pub code_word : ℕ → ℕ → ℕ
code_word code funct = code % 2 ^ 20 * 2 ^ 6 + funct

abbrev pub trap_word : ℕ → ℕ → ℕ → ℕ → ℕ
trap_word rs rt code funct =
    rs % 2 ^ 5 * 2 ^ 21 + rt % 2 ^ 5 * 2 ^ 16 + code % 2 ^ 10 * 2 ^ 6 + funct

-- ---- the numbers that select the names of a form
abbrev pub arithmetic_funct : ArithmeticName → ℕ
arithmetic_funct Add = 0x20
arithmetic_funct Addu = 0x21
arithmetic_funct Sub = 0x22
arithmetic_funct Subu = 0x23
arithmetic_funct And = 0x24
arithmetic_funct Or = 0x25
arithmetic_funct Xor = 0x26
arithmetic_funct Nor = 0x27
arithmetic_funct Slt = 0x2A
arithmetic_funct Sltu = 0x2B

abbrev pub variable_shift_funct : VariableShiftName → ℕ
variable_shift_funct Sllv = 0x04
variable_shift_funct Srlv = 0x06
variable_shift_funct Srav = 0x07

abbrev pub shift_funct : ShiftName → ℕ
shift_funct Sll = 0x00
shift_funct Srl = 0x02
shift_funct Sra = 0x03

abbrev pub move_from_funct : HiLo → ℕ
move_from_funct Hi = 0x10
move_from_funct Lo = 0x12

abbrev pub move_to_funct : HiLo → ℕ
move_to_funct Hi = 0x11
move_to_funct Lo = 0x13

abbrev pub product_funct : ProductName → ℕ
product_funct Mult = 0x18
product_funct Multu = 0x19
product_funct Div = 0x1A
product_funct Divu = 0x1B

abbrev pub branch_sign_rt : BranchSignName → ℕ
branch_sign_rt Bltz = 0x00
branch_sign_rt Bgez = 0x01
branch_sign_rt Bltzal = 0x10
branch_sign_rt Bgezal = 0x11
branch_sign_rt Bltzl = 0x02
branch_sign_rt Bgezl = 0x03
branch_sign_rt Bltzall = 0x12
branch_sign_rt Bgezall = 0x13

abbrev pub jump_op : JumpName → ℕ
jump_op J = 0x02
jump_op Jal = 0x03

abbrev pub branch_equal_op : BranchEqualName → ℕ
branch_equal_op Beq = 0x04
branch_equal_op Bne = 0x05
branch_equal_op Beql = 0x14
branch_equal_op Bnel = 0x15

abbrev pub branch_zero_op : BranchZeroName → ℕ
branch_zero_op Blez = 0x06
branch_zero_op Bgtz = 0x07
branch_zero_op Blezl = 0x16
branch_zero_op Bgtzl = 0x17

abbrev pub arithmetic_immediate_op : ArithmeticImmediateName → ℕ
arithmetic_immediate_op Addi = 0x08
arithmetic_immediate_op Addiu = 0x09
arithmetic_immediate_op Slti = 0x0A
arithmetic_immediate_op Sltiu = 0x0B

abbrev pub logical_immediate_op : LogicalImmediateName → ℕ
logical_immediate_op Andi = 0x0C
logical_immediate_op Ori = 0x0D
logical_immediate_op Xori = 0x0E

abbrev pub load_op : LoadName → ℕ
load_op Lb = 0x20
load_op Lh = 0x21
load_op Lwl = 0x22
load_op Lw = 0x23
load_op Lbu = 0x24
load_op Lhu = 0x25
load_op Lwr = 0x26

abbrev pub store_op : StoreName → ℕ
store_op Sb = 0x28
store_op Sh = 0x29
store_op Swl = 0x2A
store_op Sw = 0x2B
store_op Swr = 0x2E

abbrev pub trap_funct : TrapName → ℕ
trap_funct Tge = 0x30
trap_funct Tgeu = 0x31
trap_funct Tlt = 0x32
trap_funct Tltu = 0x33
trap_funct Teq = 0x34
trap_funct Tne = 0x36

abbrev pub trap_immediate_rt : TrapImmediateName → ℕ
trap_immediate_rt Tgei = 0x08
trap_immediate_rt Tgeiu = 0x09
trap_immediate_rt Tlti = 0x0A
trap_immediate_rt Tltiu = 0x0B
trap_immediate_rt Teqi = 0x0C
trap_immediate_rt Tnei = 0x0E

-- the word of an instruction
abbrev pub word_of : Inst → ℕ
word_of (Arithmetic name rs rt rd) = register_word 0x00 rs rt rd 0 (arithmetic_funct name)
word_of (VariableShift name rs rt rd) = register_word 0x00 rs rt rd 0 (variable_shift_funct name)
word_of (Shift name rt rd sa) = register_word 0x00 0 rt rd sa (shift_funct name)
word_of (JumpRegister rs) = register_word 0x00 rs 0 0 0 0x08
word_of (JumpAndLinkRegister rs rd) = register_word 0x00 rs 0 rd 0 0x09
word_of (Syscall code) = code_word code 0x0C
word_of (Break code) = code_word code 0x0D
word_of (MoveFrom name rd) = register_word 0x00 0 0 rd 0 (move_from_funct name)
word_of (MoveTo name rs) = register_word 0x00 rs 0 0 0 (move_to_funct name)
word_of (Product name rs rt) = register_word 0x00 rs rt 0 0 (product_funct name)
word_of (BranchSign name rs imm) = immediate_word 0x01 rs (branch_sign_rt name) imm
word_of (Jump name index) = jump_word (jump_op name) index
word_of (BranchEqual name rs rt imm) = immediate_word (branch_equal_op name) rs rt imm
word_of (BranchZero name rs imm) = immediate_word (branch_zero_op name) rs 0 imm
word_of (ArithmeticImmediate name rs rt imm) =
    immediate_word (arithmetic_immediate_op name) rs rt imm
word_of (LogicalImmediate name rs rt imm) = immediate_word (logical_immediate_op name) rs rt imm
word_of (LoadUpper rt imm) = immediate_word 0x0F 0 rt imm
word_of (Load name rs rt imm) = immediate_word (load_op name) rs rt imm
word_of (Store name rs rt imm) = immediate_word (store_op name) rs rt imm
word_of (Trap name rs rt code) = trap_word rs rt code (trap_funct name)
word_of (TrapImmediate name rs imm) = immediate_word 0x01 rs (trap_immediate_rt name) imm
word_of (Sync sa) = register_word 0x00 0 0 0 sa 0x0F
word_of (LoadLinked rs rt imm) = immediate_word 0x30 rs rt imm
word_of (StoreConditional rs rt imm) = immediate_word 0x38 rs rt imm
word_of (Reserved w) = w
word_of (Float w) = w
