-- The registers that an instruction reads and those that it writes (MIPS II, the operation of each instruction).
use Rattle.std.specs.Prelude.{ℕ, ◌%◌, ◌^◌, ◌==◌, if◌then◌else◌, List, [], ◌∷◌, ◌++◌, fold, bit_or}
use Rattle.mips_definition.specs.declared.inst.Inst.{Inst}
use Rattle.mips_definition.specs.declared.inst.Inst.TheVariants.{Arithmetic, VariableShift, Shift, JumpRegister, JumpAndLinkRegister, Syscall, Break, MoveFrom, MoveTo, Product, BranchSign, Jump, BranchEqual, BranchZero, ArithmeticImmediate, LogicalImmediate, LoadUpper, Load, Store, Trap, TrapImmediate, Sync, LoadLinked, StoreConditional, Reserved, Float}
use Rattle.mips_definition.specs.declared.names.branch_sign_name.BranchSignName.{BranchSignName}
use Rattle.mips_definition.specs.declared.names.branch_sign_name.BranchSignName.TheVariants.{Bltz, Bgez, Bltzal, Bgezal, Bltzl, Bgezl, Bltzall, Bgezall}
use Rattle.mips_definition.specs.declared.names.hi_lo.HiLo.{HiLo}
use Rattle.mips_definition.specs.declared.names.hi_lo.HiLo.TheVariants.{Hi, Lo}
use Rattle.mips_definition.specs.declared.names.jump_name.JumpName.{JumpName}
use Rattle.mips_definition.specs.declared.names.jump_name.JumpName.TheVariants.{J, Jal}
use Rattle.mips_definition.specs.declared.names.load_name.LoadName.{LoadName}
use Rattle.mips_definition.specs.declared.names.load_name.LoadName.TheVariants.{Lb, Lh, Lwl, Lw, Lbu, Lhu, Lwr}
use Rattle.delay_slots.specs.declared.unit.Unit.{Unit}
use Rattle.delay_slots.specs.declared.unit.Unit.TheVariants as units

-- a general register by its number, HI or LO
pub data Register : Type 0 where
  general : ℕ → Register
  special : HiLo → Register

-- ---- what an instruction reads

-- LWL and LWR keep a part of rt
abbrev pub read_by_load : LoadName → ℕ → ℕ → List Register
read_by_load Lb rs rt = general rs ∷ []
read_by_load Lh rs rt = general rs ∷ []
read_by_load Lwl rs rt = general rs ∷ general rt ∷ []
read_by_load Lw rs rt = general rs ∷ []
read_by_load Lbu rs rt = general rs ∷ []
read_by_load Lhu rs rt = general rs ∷ []
read_by_load Lwr rs rt = general rs ∷ general rt ∷ []

-- SYSCALL: r2 is the call's number, r4 to r7 are its words
abbrev pub read_by_call : List Register
read_by_call = general 2 ∷ general 4 ∷ general 5 ∷ general 6 ∷ general 7 ∷ []

abbrev pub read_by : Inst → List Register
read_by (Arithmetic name rs rt rd) = general rs ∷ general rt ∷ []
read_by (VariableShift name rs rt rd) = general rs ∷ general rt ∷ []
read_by (Shift name rt rd sa) = general rt ∷ []
read_by (JumpRegister rs) = general rs ∷ []
read_by (JumpAndLinkRegister rs rd) = general rs ∷ []
read_by (Syscall code) = read_by_call
read_by (Break code) = []
read_by (MoveFrom name rd) = special name ∷ []
read_by (MoveTo name rs) = general rs ∷ []
read_by (Product name rs rt) = general rs ∷ general rt ∷ []
read_by (BranchSign name rs imm) = general rs ∷ []
read_by (Jump name index) = []
read_by (BranchEqual name rs rt imm) = general rs ∷ general rt ∷ []
read_by (BranchZero name rs imm) = general rs ∷ []
read_by (ArithmeticImmediate name rs rt imm) = general rs ∷ []
read_by (LogicalImmediate name rs rt imm) = general rs ∷ []
read_by (LoadUpper rt imm) = []
read_by (Load name rs rt imm) = read_by_load name rs rt
read_by (Store name rs rt imm) = general rs ∷ general rt ∷ []
read_by (Trap name rs rt code) = general rs ∷ general rt ∷ []
read_by (TrapImmediate name rs imm) = general rs ∷ []
read_by (Sync sa) = []
read_by (LoadLinked rs rt imm) = general rs ∷ []
read_by (StoreConditional rs rt imm) = general rs ∷ general rt ∷ []
read_by (Reserved w) = []
read_by (Float w) = []

-- ---- what an instruction writes, where it does not fault

-- the link
abbrev pub written_by_branch_sign : BranchSignName → List Register
written_by_branch_sign Bltz = []
written_by_branch_sign Bgez = []
written_by_branch_sign Bltzal = general 31 ∷ []
written_by_branch_sign Bgezal = general 31 ∷ []
written_by_branch_sign Bltzl = []
written_by_branch_sign Bgezl = []
written_by_branch_sign Bltzall = general 31 ∷ []
written_by_branch_sign Bgezall = general 31 ∷ []

abbrev pub written_by_jump : JumpName → List Register
written_by_jump J = []
written_by_jump Jal = general 31 ∷ []

-- SYSCALL: r2 is the answer
abbrev pub written_by_call : List Register
written_by_call = general 2 ∷ []

abbrev pub written_by : Inst → List Register
written_by (Arithmetic name rs rt rd) = general rd ∷ []
written_by (VariableShift name rs rt rd) = general rd ∷ []
written_by (Shift name rt rd sa) = general rd ∷ []
written_by (JumpRegister rs) = []
written_by (JumpAndLinkRegister rs rd) = general rd ∷ []
written_by (Syscall code) = written_by_call
written_by (Break code) = []
written_by (MoveFrom name rd) = general rd ∷ []
written_by (MoveTo name rs) = special name ∷ []
written_by (Product name rs rt) = special Hi ∷ special Lo ∷ []
written_by (BranchSign name rs imm) = written_by_branch_sign name
written_by (Jump name index) = written_by_jump name
written_by (BranchEqual name rs rt imm) = []
written_by (BranchZero name rs imm) = []
written_by (ArithmeticImmediate name rs rt imm) = general rt ∷ []
written_by (LogicalImmediate name rs rt imm) = general rt ∷ []
written_by (LoadUpper rt imm) = general rt ∷ []
written_by (Load name rs rt imm) = general rt ∷ []
written_by (Store name rs rt imm) = []
written_by (Trap name rs rt code) = []
written_by (TrapImmediate name rs imm) = []
written_by (Sync sa) = []
written_by (LoadLinked rs rt imm) = general rt ∷ []
written_by (StoreConditional rs rt imm) = general rt ∷ []
written_by (Reserved w) = []
written_by (Float w) = []

-- ---- of a unit: its instruction, and the one in its delay slot

abbrev pub unit_reads : Unit → List Register
unit_reads (units.Plain i) = read_by i
unit_reads (units.Branch i slot) = read_by i ++ read_by slot
unit_reads (units.SlotMissing i) = read_by i
unit_reads (units.SlotIsBranch i word) = read_by i
unit_reads units.Call = read_by_call
unit_reads (units.Trap kind value) = []

abbrev pub unit_writes : Unit → List Register
unit_writes (units.Plain i) = written_by i
unit_writes (units.Branch i slot) = written_by i ++ written_by slot
unit_writes (units.SlotMissing i) = written_by i
unit_writes (units.SlotIsBranch i word) = written_by i
unit_writes units.Call = written_by_call
unit_writes (units.Trap kind value) = []

-- ---- sets of registers, as the bits of a number

-- which bit a register has; a general register's number has five bits
abbrev pub bit_number : Register → ℕ
bit_number (general r) = r % 32
bit_number (special Hi) = 32
bit_number (special Lo) = 33

-- a register alone; register 0, which nothing changes, is in no set
abbrev pub register_bit : Register → ℕ
register_bit r = if bit_number r == 0 then 0 else 2 ^ bit_number r

abbrev pub register_set : List Register → ℕ
register_set registers = fold (λ sofar r. bit_or sofar (register_bit r)) 0 registers
