-- At most how many bytes the code of a word takes in the method of a span. A register or a constant is pushed by at most three bytes, and
-- a register takes what is on the stack by at most three.
use Rattle.std.specs.Prelude.{ℕ, ◌+◌, ◌*◌, Bool, true, false, length}
use Rattle.mips_definition.specs.declared.names.arithmetic_name.ArithmeticName.{ArithmeticName}
use Rattle.mips_definition.specs.declared.names.arithmetic_name.ArithmeticName.TheVariants.{Add, Sub, Nor, Slt, Sltu}
use Rattle.mips_definition.specs.declared.names.arithmetic_immediate_name.ArithmeticImmediateName.{ArithmeticImmediateName}
use Rattle.mips_definition.specs.declared.names.arithmetic_immediate_name.ArithmeticImmediateName.TheVariants.{Addi, Addiu, Slti, Sltiu}
use Rattle.mips_definition.specs.declared.names.load_name.LoadName.{LoadName}
use Rattle.mips_definition.specs.declared.names.load_name.LoadName.TheVariants.{Lwl, Lwr}
use Rattle.mips_definition.specs.declared.names.branch_equal_name.BranchEqualName.{BranchEqualName}
use Rattle.mips_definition.specs.declared.names.branch_equal_name.BranchEqualName.TheVariants.{Beq, Bne, Beql, Bnel}
use Rattle.mips_definition.specs.declared.names.branch_zero_name.BranchZeroName.{BranchZeroName}
use Rattle.mips_definition.specs.declared.names.branch_zero_name.BranchZeroName.TheVariants.{Blez, Bgtz, Blezl, Bgtzl}
use Rattle.mips_definition.specs.declared.names.branch_sign_name.BranchSignName.{BranchSignName}
use Rattle.mips_definition.specs.declared.names.branch_sign_name.BranchSignName.TheVariants.{Bltz, Bgez, Bltzal, Bgezal, Bltzl, Bgezl, Bltzall, Bgezall}
use Rattle.mips_definition.specs.declared.names.jump_name.JumpName.{JumpName}
use Rattle.mips_definition.specs.declared.names.jump_name.JumpName.TheVariants.{J, Jal}
use Rattle.mips_definition.specs.declared.inst.Inst.{Inst}
use Rattle.mips_definition.specs.declared.inst.Inst.TheVariants as inst
use Rattle.delay_slots.specs.declared.unit.Unit.{Unit}
use Rattle.delay_slots.specs.declared.unit.Unit.TheVariants.{Plain, Branch, SlotMissing, SlotIsBranch, Call, Trap}
use Rattle.block_builder.specs.Registers.{read_by, written_by, read_by_call, written_by_call}
use Rattle.meter.specs.Laws.{guard_bytes}

-- ---- instructions

abbrev pub fault_bytes : ℕ
fault_bytes = 12

abbrev pub call_bytes : ℕ
call_bytes = 31

abbrev pub arithmetic_bytes : ArithmeticName → ℕ
arithmetic_bytes Add = 37
arithmetic_bytes Sub = 38
arithmetic_bytes Nor = 12
arithmetic_bytes Slt = 17
arithmetic_bytes Sltu = 25
arithmetic_bytes _ = 10

abbrev pub arithmetic_immediate_bytes : ArithmeticImmediateName → ℕ
arithmetic_immediate_bytes Addi = 37
arithmetic_immediate_bytes Addiu = 10
arithmetic_immediate_bytes Slti = 17
arithmetic_immediate_bytes Sltiu = 21

abbrev pub load_bytes : LoadName → ℕ
load_bytes Lwl = 19
load_bytes Lwr = 19
load_bytes _ = 16

abbrev pub branch_equal_bytes : BranchEqualName → ℕ
branch_equal_bytes Beq = 6
branch_equal_bytes Bne = 6
branch_equal_bytes Beql = 28
branch_equal_bytes Bnel = 28

abbrev pub branch_zero_bytes : BranchZeroName → ℕ
branch_zero_bytes Blez = 3
branch_zero_bytes Bgtz = 3
branch_zero_bytes Blezl = 25
branch_zero_bytes Bgtzl = 25

-- those that link write the link once in each of their ways
abbrev pub branch_sign_bytes : BranchSignName → ℕ
branch_sign_bytes Bltz = 3
branch_sign_bytes Bgez = 3
branch_sign_bytes Bltzal = 9
branch_sign_bytes Bgezal = 9
branch_sign_bytes Bltzl = 25
branch_sign_bytes Bgezl = 25
branch_sign_bytes Bltzall = 37
branch_sign_bytes Bgezall = 37

abbrev pub jump_bytes : JumpName → ℕ
jump_bytes J = 1
jump_bytes Jal = 7

-- an instruction; a branch or jump without the code of its delay slot
abbrev pub instruction_bytes : Inst → ℕ
instruction_bytes (inst.Arithmetic name rs rt rd) = arithmetic_bytes name
instruction_bytes (inst.VariableShift name rs rt rd) = 10
instruction_bytes (inst.Shift name rt rd sa) = 10
instruction_bytes (inst.JumpRegister rs) = 3
instruction_bytes (inst.JumpAndLinkRegister rs rd) = 9
instruction_bytes (inst.Syscall code) = call_bytes
instruction_bytes (inst.Break code) = fault_bytes
instruction_bytes (inst.MoveFrom name rd) = 6
instruction_bytes (inst.MoveTo name rs) = 6
instruction_bytes (inst.Product name rs rt) = 9
instruction_bytes (inst.BranchSign name rs imm) = branch_sign_bytes name
instruction_bytes (inst.Jump name index) = jump_bytes name
instruction_bytes (inst.BranchEqual name rs rt imm) = branch_equal_bytes name
instruction_bytes (inst.BranchZero name rs imm) = branch_zero_bytes name
instruction_bytes (inst.ArithmeticImmediate name rs rt imm) = arithmetic_immediate_bytes name
instruction_bytes (inst.LogicalImmediate name rs rt imm) = 10
instruction_bytes (inst.LoadUpper rt imm) = 6
instruction_bytes (inst.Load name rs rt imm) = load_bytes name
instruction_bytes (inst.Store name rs rt imm) = 16
instruction_bytes (inst.Trap name rs rt code) = 29
instruction_bytes (inst.TrapImmediate name rs imm) = 25
instruction_bytes (inst.Sync sa) = 1
instruction_bytes (inst.LoadLinked rs rt imm) = 16
instruction_bytes (inst.StoreConditional rs rt imm) = 19
instruction_bytes (inst.Reserved word) = fault_bytes
instruction_bytes (inst.Float word) = 0

-- ---- units

abbrev pub unit_bytes : Unit → ℕ
unit_bytes (Plain i) = instruction_bytes i
unit_bytes (Branch i slot) = instruction_bytes i + instruction_bytes slot
unit_bytes (SlotMissing i) = instruction_bytes i + fault_bytes
unit_bytes (SlotIsBranch i word) = instruction_bytes i + fault_bytes
unit_bytes Call = call_bytes
unit_bytes (Trap kind value) = fault_bytes

-- the way from a unit: to one of two words, to one word, or out of the method
abbrev pub branch_exit_bytes : Inst → ℕ
branch_exit_bytes (inst.BranchSign name rs imm) = 17
branch_exit_bytes (inst.BranchEqual name rs rt imm) = 17
branch_exit_bytes (inst.BranchZero name rs imm) = 17
branch_exit_bytes (inst.Jump name index) = 7
branch_exit_bytes (inst.JumpRegister rs) = 4
branch_exit_bytes (inst.JumpAndLinkRegister rs rd) = 4
branch_exit_bytes _ = 1

abbrev pub exit_bytes : Unit → ℕ
exit_bytes (Plain i) = 7
exit_bytes (Branch i slot) = branch_exit_bytes i
exit_bytes (SlotMissing i) = 5
exit_bytes (SlotIsBranch i word) = 5
exit_bytes Call = 7
exit_bytes (Trap kind value) = 1

-- A piece fetches each register that it needs and puts back each that it writes, by five bytes. A likely branch may pass its slot over,
-- so what its slot writes is fetched too.
abbrev pub register_count : Unit → ℕ
register_count (Plain i) = length (read_by i) + length (written_by i)
register_count (Branch i slot) =
    length (read_by i) + length (written_by i) + length (read_by slot) + 2
    * length (written_by slot)
register_count (SlotMissing i) = length (read_by i) + length (written_by i)
register_count (SlotIsBranch i word) = length (read_by i) + length (written_by i)
register_count Call = length read_by_call + length written_by_call
register_count (Trap kind value) = 0

abbrev pub register_bytes : Unit → ℕ
register_bytes unit = 5 * register_count unit

-- the code of a word over the fields and over local variables, each with the way from it, and its share of what a piece fetches and
-- puts back
abbrev pub weight : Unit → ℕ
weight unit = 2 * (unit_bytes unit + exit_bytes unit) + register_bytes unit

-- with a meter, a guard stands before the code of each word
abbrev pub weight_of : Bool → Unit → ℕ
weight_of true unit = weight unit + guard_bytes
weight_of false unit = weight unit
