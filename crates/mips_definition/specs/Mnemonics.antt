-- The mnemonics of the instructions.
use Rattle.std.specs.Prelude.{ℕ, List, codes}
use Rattle.mips_definition.specs.declared.names.arithmetic_name.ArithmeticName.{ArithmeticName}
use Rattle.mips_definition.specs.declared.names.arithmetic_name.ArithmeticName.TheVariants.{Add, Addu, Sub, Subu, And, Or, Xor, Nor, Slt, Sltu}
use Rattle.mips_definition.specs.declared.names.variable_shift_name.VariableShiftName.{VariableShiftName}
use Rattle.mips_definition.specs.declared.names.variable_shift_name.VariableShiftName.TheVariants.{Sllv, Srlv, Srav}
use Rattle.mips_definition.specs.declared.names.shift_name.ShiftName.{ShiftName}
use Rattle.mips_definition.specs.declared.names.shift_name.ShiftName.TheVariants.{Sll, Srl, Sra}
use Rattle.mips_definition.specs.declared.names.hi_lo.HiLo.{HiLo}
use Rattle.mips_definition.specs.declared.names.hi_lo.HiLo.TheVariants.{Hi, Lo}
use Rattle.mips_definition.specs.declared.names.product_name.ProductName.{ProductName}
use Rattle.mips_definition.specs.declared.names.product_name.ProductName.TheVariants.{Mult, Multu, Div, Divu}
use Rattle.mips_definition.specs.declared.names.branch_sign_name.BranchSignName.{BranchSignName}
use Rattle.mips_definition.specs.declared.names.branch_sign_name.BranchSignName.TheVariants.{Bltz, Bgez, Bltzal, Bgezal, Bltzl, Bgezl, Bltzall, Bgezall}
use Rattle.mips_definition.specs.declared.names.jump_name.JumpName.{JumpName}
use Rattle.mips_definition.specs.declared.names.jump_name.JumpName.TheVariants.{J, Jal}
use Rattle.mips_definition.specs.declared.names.branch_equal_name.BranchEqualName.{BranchEqualName}
use Rattle.mips_definition.specs.declared.names.branch_equal_name.BranchEqualName.TheVariants.{Beq, Bne, Beql, Bnel}
use Rattle.mips_definition.specs.declared.names.branch_zero_name.BranchZeroName.{BranchZeroName}
use Rattle.mips_definition.specs.declared.names.branch_zero_name.BranchZeroName.TheVariants.{Blez, Bgtz, Blezl, Bgtzl}
use Rattle.mips_definition.specs.declared.names.arithmetic_immediate_name.ArithmeticImmediateName.{ArithmeticImmediateName}
use Rattle.mips_definition.specs.declared.names.arithmetic_immediate_name.ArithmeticImmediateName.TheVariants.{Addi, Addiu, Slti, Sltiu}
use Rattle.mips_definition.specs.declared.names.logical_immediate_name.LogicalImmediateName.{LogicalImmediateName}
use Rattle.mips_definition.specs.declared.names.logical_immediate_name.LogicalImmediateName.TheVariants.{Andi, Ori, Xori}
use Rattle.mips_definition.specs.declared.names.load_name.LoadName.{LoadName}
use Rattle.mips_definition.specs.declared.names.load_name.LoadName.TheVariants.{Lb, Lh, Lwl, Lw, Lbu, Lhu, Lwr}
use Rattle.mips_definition.specs.declared.names.store_name.StoreName.{StoreName}
use Rattle.mips_definition.specs.declared.names.store_name.StoreName.TheVariants.{Sb, Sh, Swl, Sw, Swr}
use Rattle.mips_definition.specs.declared.names.trap_name.TrapName.{TrapName}
use Rattle.mips_definition.specs.declared.names.trap_name.TrapName.TheVariants.{Tge, Tgeu, Tlt, Tltu, Teq, Tne}
use Rattle.mips_definition.specs.declared.names.trap_immediate_name.TrapImmediateName.{TrapImmediateName}
use Rattle.mips_definition.specs.declared.names.trap_immediate_name.TrapImmediateName.TheVariants.{Tgei, Tgeiu, Tlti, Tltiu, Teqi, Tnei}

abbrev pub arithmetic_text : ArithmeticName → List ℕ
arithmetic_text Add = codes "add"
arithmetic_text Addu = codes "addu"
arithmetic_text Sub = codes "sub"
arithmetic_text Subu = codes "subu"
arithmetic_text And = codes "and"
arithmetic_text Or = codes "or"
arithmetic_text Xor = codes "xor"
arithmetic_text Nor = codes "nor"
arithmetic_text Slt = codes "slt"
arithmetic_text Sltu = codes "sltu"

abbrev pub variable_shift_text : VariableShiftName → List ℕ
variable_shift_text Sllv = codes "sllv"
variable_shift_text Srlv = codes "srlv"
variable_shift_text Srav = codes "srav"

abbrev pub shift_text : ShiftName → List ℕ
shift_text Sll = codes "sll"
shift_text Srl = codes "srl"
shift_text Sra = codes "sra"

abbrev pub hi_lo_text : HiLo → List ℕ
hi_lo_text Hi = codes "hi"
hi_lo_text Lo = codes "lo"

abbrev pub product_text : ProductName → List ℕ
product_text Mult = codes "mult"
product_text Multu = codes "multu"
product_text Div = codes "div"
product_text Divu = codes "divu"

abbrev pub branch_sign_text : BranchSignName → List ℕ
branch_sign_text Bltz = codes "bltz"
branch_sign_text Bgez = codes "bgez"
branch_sign_text Bltzal = codes "bltzal"
branch_sign_text Bgezal = codes "bgezal"
branch_sign_text Bltzl = codes "bltzl"
branch_sign_text Bgezl = codes "bgezl"
branch_sign_text Bltzall = codes "bltzall"
branch_sign_text Bgezall = codes "bgezall"

abbrev pub jump_text : JumpName → List ℕ
jump_text J = codes "j"
jump_text Jal = codes "jal"

abbrev pub branch_equal_text : BranchEqualName → List ℕ
branch_equal_text Beq = codes "beq"
branch_equal_text Bne = codes "bne"
branch_equal_text Beql = codes "beql"
branch_equal_text Bnel = codes "bnel"

abbrev pub branch_zero_text : BranchZeroName → List ℕ
branch_zero_text Blez = codes "blez"
branch_zero_text Bgtz = codes "bgtz"
branch_zero_text Blezl = codes "blezl"
branch_zero_text Bgtzl = codes "bgtzl"

abbrev pub arithmetic_immediate_text : ArithmeticImmediateName → List ℕ
arithmetic_immediate_text Addi = codes "addi"
arithmetic_immediate_text Addiu = codes "addiu"
arithmetic_immediate_text Slti = codes "slti"
arithmetic_immediate_text Sltiu = codes "sltiu"

abbrev pub logical_immediate_text : LogicalImmediateName → List ℕ
logical_immediate_text Andi = codes "andi"
logical_immediate_text Ori = codes "ori"
logical_immediate_text Xori = codes "xori"

abbrev pub load_text : LoadName → List ℕ
load_text Lb = codes "lb"
load_text Lh = codes "lh"
load_text Lwl = codes "lwl"
load_text Lw = codes "lw"
load_text Lbu = codes "lbu"
load_text Lhu = codes "lhu"
load_text Lwr = codes "lwr"

abbrev pub store_text : StoreName → List ℕ
store_text Sb = codes "sb"
store_text Sh = codes "sh"
store_text Swl = codes "swl"
store_text Sw = codes "sw"
store_text Swr = codes "swr"

abbrev pub trap_text : TrapName → List ℕ
trap_text Tge = codes "tge"
trap_text Tgeu = codes "tgeu"
trap_text Tlt = codes "tlt"
trap_text Tltu = codes "tltu"
trap_text Teq = codes "teq"
trap_text Tne = codes "tne"

abbrev pub trap_immediate_text : TrapImmediateName → List ℕ
trap_immediate_text Tgei = codes "tgei"
trap_immediate_text Tgeiu = codes "tgeiu"
trap_immediate_text Tlti = codes "tlti"
trap_immediate_text Tltiu = codes "tltiu"
trap_immediate_text Teqi = codes "teqi"
trap_immediate_text Tnei = codes "tnei"
