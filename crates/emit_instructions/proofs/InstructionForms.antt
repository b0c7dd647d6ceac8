-- The form of the code of each instruction that is no branch and no jump.
use Rattle.std.proofs.Common.{◌≡◌, ℕ, ◌*◌, ◌^◌, ◌==◌, List, [], ◌∷◌, ◌++◌, refl}
use Rattle.mips_definition.specs.Effect.{overflow_fault, break_fault, trap_fault, reserved_fault}
use Rattle.mips_decode.specs.Encoding.{word_of}
use Rattle.mips_definition.specs.Targets.{extended_imm}
use Rattle.mips_definition.specs.declared.names.arithmetic_name.ArithmeticName.{ArithmeticName}
use Rattle.mips_definition.specs.declared.names.arithmetic_name.ArithmeticName.TheVariants.{Add, Addu, Sub, Subu, And, Or, Xor, Nor, Slt, Sltu}
use Rattle.mips_definition.specs.declared.names.arithmetic_immediate_name.ArithmeticImmediateName.{ArithmeticImmediateName}
use Rattle.mips_definition.specs.declared.names.arithmetic_immediate_name.ArithmeticImmediateName.TheVariants.{Addi, Addiu, Slti, Sltiu}
use Rattle.mips_definition.specs.declared.names.logical_immediate_name.LogicalImmediateName.{LogicalImmediateName}
use Rattle.mips_definition.specs.declared.names.logical_immediate_name.LogicalImmediateName.TheVariants.{Andi, Ori, Xori}
use Rattle.mips_definition.specs.declared.names.load_name.LoadName.{LoadName}
use Rattle.mips_definition.specs.declared.names.load_name.LoadName.TheVariants.{Lwl, Lwr}
use Rattle.mips_definition.specs.declared.names.trap_name.TrapName.{TrapName}
use Rattle.mips_definition.specs.declared.names.trap_name.TrapName.TheVariants.{Tgeu, Tltu}
use Rattle.mips_definition.specs.declared.names.trap_immediate_name.TrapImmediateName.{TrapImmediateName}
use Rattle.mips_definition.specs.declared.names.trap_immediate_name.TrapImmediateName.TheVariants.{Tgeiu, Tltiu}
use Rattle.mips_definition.specs.declared.inst.Inst.{Inst}
use Rattle.mips_definition.specs.declared.inst.Inst.TheVariants as inst
use Rattle.jvm_definition.specs.declared.int_arithmetic.IntArithmetic.{IntArithmetic}
use Rattle.jvm_definition.specs.declared.int_arithmetic.IntArithmetic.TheVariants.{Iadd, Isub, Iand, Ior, Ixor}
use Rattle.jvm_definition.specs.declared.stack_name.StackName.TheVariants.{Dup, DupX1, Swap}
use Rattle.jvm_definition.specs.declared.branch_name.BranchName.{BranchName}
use Rattle.jvm_definition.specs.declared.branch_name.BranchName.TheVariants.{Ifeq, Ifne, Ifge, IfIcmplt, Goto}
use Rattle.jvm_definition.specs.declared.constant.Constant.TheVariants as constants
use Rattle.jvm_definition.specs.declared.kind.Kind.TheVariants as kinds
use Rattle.jvm_definition.specs.declared.instruction.Instruction.TheVariants as instructions
use Rattle.emit_layout.specs.FieldNumbers.{readable_field, writable_field}
use Rattle.emit_instructions.specs.Access.{top_bit, turned}
use Rattle.emit_instructions.specs.Fields.{linked_field}
use Rattle.emit_instructions.specs.Faulting.{passing, passing_immediate}
use Rattle.emit_instructions.specs.Computing.{shift_name, variable_shift_name, hi_lo_field}
use Rattle.emit_instructions.specs.Helpers.{load_helper, store_helper, product_helper, load_linked_helper, store_conditional_helper}
use Rattle.emit_instructions.specs.Units.{instruction_code}
use Rattle.emit_instructions.proofs.Forms.{Part, Acts, Passes, Word, Reads, Writes, Form, Straight, Both, Either, code_of}

-- ---- parts

abbrev known : ℕ → Part
known w = Acts (instructions.Push (constants.Int w))

abbrev computes : IntArithmetic → Part
computes name = Acts (instructions.IntArithmetic name)

abbrev pub passes : BranchName → ℕ → Part
passes name k = Passes name (λ bank. k)

abbrev reads_turned : ℕ → List Part
reads_turned r = Reads r ∷ known top_bit ∷ computes Iadd ∷ []

-- ---- faults and calls

abbrev faults : ℕ → ℕ → List Part
faults at value = Word at ∷ Word value ∷ Acts instructions.FaultHost ∷ []

abbrev pub fault_form : ℕ → ℕ → ℕ → Form
fault_form kind at value = Straight (known kind ∷ faults at value)

-- a fault whose kind may be any
abbrev pub any_fault_form : ℕ → ℕ → ℕ → Form
any_fault_form kind at value = Straight (Word kind ∷ faults at value)

abbrev pub call_form : Form
call_form = Straight (Acts (instructions.Get readable_field kinds.Pages) ∷ Acts (instructions.Get writable_field kinds.Pages)
    ∷ Reads 2 ∷ Reads 4 ∷ Reads 5 ∷ Reads 6 ∷ Reads 7 ∷ Acts instructions.CallHost ∷ Writes 2 ∷ known 0
    ∷ Acts (instructions.Put linked_field kinds.Int) ∷ [])

-- ---- of two registers

abbrev moved : ℕ → ℕ → Form
moved rs rd = Straight (Reads rs ∷ Writes rd ∷ [])

abbrev combined : IntArithmetic → ℕ → ℕ → ℕ → Form
combined name rs rt rd = Straight (Reads rs ∷ Reads rt ∷ computes name ∷ Writes rd ∷ [])

abbrev combined_or_moved : IntArithmetic → ℕ → ℕ → ℕ → Form
combined_or_moved name rs rt rd = Either (rt == 0) (moved rs rd) (combined name rs rt rd)

abbrev chosen : BranchName → ℕ → List Part
chosen test rd = passes test 2 ∷ known 0 ∷ passes Goto 1 ∷ known 1 ∷ Writes rd ∷ []

abbrev overflow : ℕ → ℕ → ℕ → List Part
overflow rd at word = computes Iand ∷ passes Ifge 4 ∷ known overflow_fault ∷ faults at word ++ Writes rd ∷ []

abbrev arithmetic_form : ArithmeticName → ℕ → ℕ → ℕ → ℕ → ℕ → Form
arithmetic_form Add rs rt rd at word =
    Straight (Reads rs ∷ Reads rt ∷ computes Iadd ∷ Acts (instructions.Stack Dup) ∷ Reads rs ∷ computes Ixor
    ∷ Acts (instructions.Stack Swap) ∷ Acts (instructions.Stack DupX1) ∷ Reads rt ∷ computes Ixor ∷ overflow rd at word)
arithmetic_form Addu rs rt rd at word = combined_or_moved Iadd rs rt rd
arithmetic_form Sub rs rt rd at word =
    Straight (Reads rs ∷ Reads rt ∷ computes Isub ∷ Acts (instructions.Stack Dup) ∷ Reads rs ∷ computes Ixor ∷ Reads rs ∷ Reads rt
    ∷ computes Ixor ∷ overflow rd at word)
arithmetic_form Subu rs rt rd at word = combined Isub rs rt rd
arithmetic_form And rs rt rd at word = combined Iand rs rt rd
arithmetic_form Or rs rt rd at word = combined_or_moved Ior rs rt rd
arithmetic_form Xor rs rt rd at word = combined Ixor rs rt rd
arithmetic_form Nor rs rt rd at word =
    Straight (Reads rs ∷ Reads rt ∷ computes Ior ∷ known 0xFFFF_FFFF ∷ computes Ixor ∷ Writes rd ∷ [])
arithmetic_form Slt rs rt rd at word = Straight (Reads rs ∷ Reads rt ∷ chosen IfIcmplt rd)
arithmetic_form Sltu rs rt rd at word =
    Either (rs == 0) (Straight (Reads rt ∷ chosen Ifne rd)) (Straight (reads_turned rs ++ reads_turned rt ++ chosen IfIcmplt rd))

-- ---- of a register and an immediate

abbrev set : ℕ → ℕ → Form
set w rt = Straight (Word w ∷ Writes rt ∷ [])

abbrev combined_with : IntArithmetic → ℕ → ℕ → ℕ → Form
combined_with name rs w rt = Straight (Reads rs ∷ Word w ∷ computes name ∷ Writes rt ∷ [])

abbrev joined_with : IntArithmetic → ℕ → ℕ → ℕ → Form
joined_with name rs w rt = Either (rs == 0) (set w rt) (Either (w == 0) (moved rs rt) (combined_with name rs w rt))

abbrev immediate_form : ArithmeticImmediateName → ℕ → ℕ → ℕ → ℕ → ℕ → Form
immediate_form Addi rs w rt at word =
    Straight (Reads rs ∷ Word w ∷ computes Iadd ∷ Acts (instructions.Stack Dup) ∷ Reads rs ∷ computes Ixor
    ∷ Acts (instructions.Stack Swap) ∷ Acts (instructions.Stack DupX1) ∷ Word w ∷ computes Ixor ∷ overflow rt at word)
immediate_form Addiu rs w rt at word = joined_with Iadd rs w rt
immediate_form Slti rs w rt at word = Straight (Reads rs ∷ Word w ∷ chosen IfIcmplt rt)
immediate_form Sltiu rs w rt at word =
    Either (w == 1) (Straight (Reads rs ∷ chosen Ifeq rt)) (Straight (reads_turned rs ++ Word (turned w) ∷ chosen IfIcmplt rt))

abbrev logical_form : LogicalImmediateName → ℕ → ℕ → ℕ → Form
logical_form Andi rs rt imm = combined_with Iand rs imm rt
logical_form Ori rs rt imm = joined_with Ior rs imm rt
logical_form Xori rs rt imm = combined_with Ixor rs imm rt

-- ---- loads and stores

abbrev address : ℕ → ℕ → Form
address rs w = Either (w == 0) (Straight (Reads rs ∷ [])) (Straight (Reads rs ∷ Word w ∷ computes Iadd ∷ []))

abbrev access : ℕ → ℕ → ℕ → ℕ → Form
access helper rs imm at = Both (address rs (extended_imm imm)) (Straight (Word at ∷ Acts (instructions.Call helper) ∷ []))

abbrev loaded : ℕ → ℕ → ℕ → ℕ → ℕ → Form
loaded helper rs rt imm at = Both (access helper rs imm at) (Straight (Writes rt ∷ []))

abbrev with_register : ℕ → Form → Form
with_register rt form = Both (Straight (Reads rt ∷ [])) form

abbrev load_form : LoadName → ℕ → ℕ → ℕ → ℕ → Form
load_form Lwl rs rt imm at = with_register rt (loaded (load_helper Lwl) rs rt imm at)
load_form Lwr rs rt imm at = with_register rt (loaded (load_helper Lwr) rs rt imm at)
load_form name rs rt imm at = loaded (load_helper name) rs rt imm at

-- ---- traps

abbrev unless : BranchName → ℕ → ℕ → List Part
unless test at word = passes test 4 ∷ known trap_fault ∷ faults at word

abbrev compared : TrapName → ℕ → ℕ → List Part
compared Tgeu rs rt = reads_turned rs ++ reads_turned rt
compared Tltu rs rt = reads_turned rs ++ reads_turned rt
compared name rs rt = Reads rs ∷ Reads rt ∷ []

abbrev compared_with : TrapImmediateName → ℕ → ℕ → List Part
compared_with Tgeiu rs w = reads_turned rs ++ Word (turned w) ∷ []
compared_with Tltiu rs w = reads_turned rs ++ Word (turned w) ∷ []
compared_with name rs w = Reads rs ∷ Word w ∷ []

-- ---- all of them

abbrev pub instruction_form : Inst → ℕ → Form
instruction_form (inst.Arithmetic name rs rt rd) at = arithmetic_form name rs rt rd at (word_of (inst.Arithmetic name rs rt rd))
instruction_form (inst.VariableShift name rs rt rd) at =
    Straight (Reads rt ∷ Reads rs ∷ Acts (instructions.IntShift (variable_shift_name name)) ∷ Writes rd ∷ [])
instruction_form (inst.Shift name rt rd sa) at =
    let whole = Straight (Reads rt ∷ Word sa ∷ Acts (instructions.IntShift (shift_name name)) ∷ Writes rd ∷ []) in
    Either (rd == 0) (Straight (Acts instructions.Nop ∷ [])) (Either (sa == 0) (moved rt rd) whole)
instruction_form (inst.Syscall code) at = call_form
instruction_form (inst.Break code) at = fault_form break_fault at code
instruction_form (inst.MoveFrom name rd) at = Straight (Acts (instructions.Get (hi_lo_field name) kinds.Int) ∷ Writes rd ∷ [])
instruction_form (inst.MoveTo name rs) at = Straight (Reads rs ∷ Acts (instructions.Put (hi_lo_field name) kinds.Int) ∷ [])
instruction_form (inst.Product name rs rt) at = Straight (Reads rs ∷ Reads rt ∷ Acts (instructions.Call (product_helper name)) ∷ [])
instruction_form (inst.ArithmeticImmediate name rs rt imm) at =
    immediate_form name rs (extended_imm imm) rt at (word_of (inst.ArithmeticImmediate name rs rt imm))
instruction_form (inst.LogicalImmediate name rs rt imm) at = logical_form name rs rt imm
instruction_form (inst.LoadUpper rt imm) at = set (imm * 2 ^ 16) rt
instruction_form (inst.Load name rs rt imm) at = load_form name rs rt imm at
instruction_form (inst.Store name rs rt imm) at = with_register rt (access (store_helper name) rs imm at)
instruction_form (inst.Trap name rs rt code) at =
    Straight (compared name rs rt ++ unless (passing name) at (word_of (inst.Trap name rs rt code)))
instruction_form (inst.TrapImmediate name rs imm) at =
    Straight (compared_with name rs (extended_imm imm) ++ unless (passing_immediate name) at (word_of (inst.TrapImmediate name rs imm)))
instruction_form (inst.Sync sa) at = Straight (Acts instructions.Nop ∷ [])
instruction_form (inst.LoadLinked rs rt imm) at = loaded load_linked_helper rs rt imm at
instruction_form (inst.StoreConditional rs rt imm) at = with_register rt (loaded store_conditional_helper rs rt imm at)
instruction_form (inst.Reserved word) at = fault_form reserved_fault at word
instruction_form other at = Straight []

pub instruction-is : (bank : ℕ) (i : Inst) (at : ℕ) → instruction_code bank i at ≡ code_of bank (instruction_form i at)
instruction-is bank (inst.Arithmetic Add rs rt rd) at = refl
instruction-is bank (inst.ArithmeticImmediate Addi rs rt imm) at = refl
instruction-is bank (inst.LogicalImmediate Andi rs rt imm) at = refl
instruction-is bank (inst.Load Lwl rs rt imm) at = refl
instruction-is bank (inst.Trap Tgeu rs rt code) at = refl
instruction-is bank (inst.TrapImmediate Tgeiu rs imm) at = refl
instruction-is bank other at = refl
