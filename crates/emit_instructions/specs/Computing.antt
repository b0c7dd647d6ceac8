-- The code of the instructions that compute.
use Rattle.std.specs.Prelude.{ℕ, ◌*◌, ◌^◌, ◌==◌, if◌then◌else◌, List, [], ◌∷◌, ◌++◌}
use Rattle.mips_definition.specs.Effect.{overflow_fault}
use Rattle.mips_definition.specs.Targets.{extended_imm}
use Rattle.mips_definition.specs.declared.names.arithmetic_name.ArithmeticName.{ArithmeticName}
use Rattle.mips_definition.specs.declared.names.arithmetic_name.ArithmeticName.TheVariants.{Add, Addu, Sub, Subu, And, Or, Xor, Nor, Slt, Sltu}
use Rattle.mips_definition.specs.declared.names.arithmetic_immediate_name.ArithmeticImmediateName.{ArithmeticImmediateName}
use Rattle.mips_definition.specs.declared.names.arithmetic_immediate_name.ArithmeticImmediateName.TheVariants.{Addi, Addiu, Slti, Sltiu}
use Rattle.mips_definition.specs.declared.names.logical_immediate_name.LogicalImmediateName.{LogicalImmediateName}
use Rattle.mips_definition.specs.declared.names.logical_immediate_name.LogicalImmediateName.TheVariants.{Andi, Ori, Xori}
use Rattle.mips_definition.specs.declared.names.shift_name.ShiftName.{ShiftName}
use Rattle.mips_definition.specs.declared.names.shift_name.ShiftName.TheVariants.{Sll, Srl, Sra}
use Rattle.mips_definition.specs.declared.names.variable_shift_name.VariableShiftName.{VariableShiftName}
use Rattle.mips_definition.specs.declared.names.variable_shift_name.VariableShiftName.TheVariants.{Sllv, Srlv, Srav}
use Rattle.mips_definition.specs.declared.names.hi_lo.HiLo.{HiLo}
use Rattle.mips_definition.specs.declared.names.hi_lo.HiLo.TheVariants.{Hi, Lo}
use Rattle.mips_definition.specs.declared.names.product_name.ProductName.{ProductName}
use Rattle.delay_slots.specs.Places.{Address}
use Rattle.jvm_definition.specs.declared.int_arithmetic.IntArithmetic.{IntArithmetic}
use Rattle.jvm_definition.specs.declared.int_arithmetic.IntArithmetic.TheVariants.{Iadd, Isub, Iand, Ior, Ixor}
use Rattle.jvm_definition.specs.declared.int_shift.IntShift.{IntShift}
use Rattle.jvm_definition.specs.declared.int_shift.IntShift.TheVariants.{Ishl, Ishr, Iushr}
use Rattle.jvm_definition.specs.declared.stack_name.StackName.TheVariants.{Dup, DupX1, Swap}
use Rattle.jvm_definition.specs.declared.branch_name.BranchName.{BranchName}
use Rattle.jvm_definition.specs.declared.branch_name.BranchName.TheVariants.{Ifeq, Ifne, Ifge, IfIcmplt, Goto}
use Rattle.jvm_definition.specs.declared.instruction.Instruction.TheVariants as instructions
use Rattle.emit_steps.specs.declared.step.Step.{Step}
use Rattle.emit_steps.specs.declared.step.Step.TheVariants.{Does, Skips}
use Rattle.emit_layout.specs.FieldNumbers.{hi_field, lo_field}
use Rattle.emit_instructions.specs.Access.{push_word, get_field, put_field, arithmetic, get_register, put_register, get_turned, turned}
use Rattle.emit_instructions.specs.Faulting.{fault_code}
use Rattle.emit_instructions.specs.Helpers.{product_helper}

-- ---- of two registers

abbrev pub moved_code : ℕ → ℕ → ℕ → List Step
moved_code bank rs rd = get_register bank rs ∷ put_register bank rd ∷ []

abbrev pub combined_code : ℕ → IntArithmetic → ℕ → ℕ → ℕ → List Step
combined_code bank name rs rt rd =
    get_register bank rs ∷ get_register bank rt ∷ arithmetic name ∷ put_register bank rd ∷ []

-- where rt is register 0, it is a move
abbrev pub combined_or_moved_code : ℕ → IntArithmetic → ℕ → ℕ → ℕ → List Step
combined_or_moved_code bank name rs rt rd = if rt == 0 then moved_code bank rs rd
    else combined_code bank name rs rt rd

-- NOR: the complement is the word beside FFFFFFFF
abbrev pub nor_code : ℕ → ℕ → ℕ → ℕ → List Step
nor_code bank rs rt rd =
    get_register bank rs ∷ get_register bank rt ∷ arithmetic Ior ∷ push_word 0xFFFF_FFFF
    ∷ arithmetic Ixor ∷ put_register bank rd ∷ []

-- what is on the stack is tested, and 1 or 0 goes to a register
abbrev pub chosen_code : ℕ → BranchName → ℕ → List Step
chosen_code bank test rd = Skips test 2 ∷ push_word 0 ∷ Skips Goto 1 ∷ push_word 1
    ∷ put_register bank rd ∷ []

abbrev pub slt_code : ℕ → ℕ → ℕ → ℕ → List Step
slt_code bank rs rt rd = get_register bank rs ∷ get_register bank rt ∷ chosen_code bank IfIcmplt rd

-- SLTU: 0 is below each word but 0
abbrev pub sltu_code : ℕ → ℕ → ℕ → ℕ → List Step
sltu_code bank rs rt rd =
    if rs == 0 then get_register bank rt ∷ chosen_code bank Ifne rd
    else get_turned bank rs ++ get_turned bank rt ++ chosen_code bank IfIcmplt rd

-- Two words are on the stack above a sum or difference, which overflows where both have their top bits set.
abbrev pub overflow_code : ℕ → ℕ → Address → ℕ → List Step
overflow_code bank rd at word =
    arithmetic Iand ∷ Skips Ifge 4 ∷ (fault_code overflow_fault at word
    ++ put_register bank rd ∷ [])

-- ADD: the sum stands on the stack, and overflows where it has another sign than both summands
abbrev pub add_code : ℕ → ℕ → ℕ → ℕ → Address → ℕ → List Step
add_code bank rs rt rd at word =
    get_register bank rs ∷ get_register bank rt ∷ arithmetic Iadd
    ∷ Does (instructions.Stack Dup) ∷ get_register bank rs ∷ arithmetic Ixor
    ∷ Does (instructions.Stack Swap) ∷ Does (instructions.Stack DupX1) ∷ get_register bank rt
    ∷ arithmetic Ixor
    ∷ overflow_code bank rd at word

-- SUB: the difference overflows where its sign is not that of rs, and the signs of rs and rt differ
abbrev pub sub_code : ℕ → ℕ → ℕ → ℕ → Address → ℕ → List Step
sub_code bank rs rt rd at word =
    get_register bank rs ∷ get_register bank rt ∷ arithmetic Isub
    ∷ Does (instructions.Stack Dup) ∷ get_register bank rs ∷ arithmetic Ixor
    ∷ get_register bank rs ∷ get_register bank rt ∷ arithmetic Ixor
    ∷ overflow_code bank rd at word

abbrev pub arithmetic_code : ℕ → ArithmeticName → ℕ → ℕ → ℕ → Address → ℕ → List Step
arithmetic_code bank Add rs rt rd at word = add_code bank rs rt rd at word
arithmetic_code bank Addu rs rt rd at word = combined_or_moved_code bank Iadd rs rt rd
arithmetic_code bank Sub rs rt rd at word = sub_code bank rs rt rd at word
arithmetic_code bank Subu rs rt rd at word = combined_code bank Isub rs rt rd
arithmetic_code bank And rs rt rd at word = combined_code bank Iand rs rt rd
arithmetic_code bank Or rs rt rd at word = combined_or_moved_code bank Ior rs rt rd
arithmetic_code bank Xor rs rt rd at word = combined_code bank Ixor rs rt rd
arithmetic_code bank Nor rs rt rd at word = nor_code bank rs rt rd
arithmetic_code bank Slt rs rt rd at word = slt_code bank rs rt rd
arithmetic_code bank Sltu rs rt rd at word = sltu_code bank rs rt rd

-- ---- shifts

abbrev pub shift_name : ShiftName → IntShift
shift_name Sll = Ishl
shift_name Srl = Iushr
shift_name Sra = Ishr

abbrev pub variable_shift_name : VariableShiftName → IntShift
variable_shift_name Sllv = Ishl
variable_shift_name Srlv = Iushr
variable_shift_name Srav = Ishr

-- The word 0, which does nothing, is a shift to register 0. A shift by 0 is a move.
abbrev pub shift_code : ℕ → ShiftName → ℕ → ℕ → ℕ → List Step
shift_code bank name rt rd sa =
    if rd == 0 then Does instructions.Nop ∷ []
    else if sa == 0 then moved_code bank rt rd
    else get_register bank rt ∷ push_word sa ∷ Does (instructions.IntShift (shift_name name))
    ∷ put_register bank rd ∷ []

-- the class machine takes the low five bits of the amount, as the guest does
abbrev pub variable_shift_code : ℕ → VariableShiftName → ℕ → ℕ → ℕ → List Step
variable_shift_code bank name rs rt rd =
    get_register bank rt ∷ get_register bank rs
    ∷ Does (instructions.IntShift (variable_shift_name name)) ∷ put_register bank rd ∷ []

-- ---- HI and LO

abbrev pub hi_lo_field : HiLo → ℕ
hi_lo_field Hi = hi_field
hi_lo_field Lo = lo_field

abbrev pub move_from_code : ℕ → HiLo → ℕ → List Step
move_from_code bank name rd = get_field (hi_lo_field name) ∷ put_register bank rd ∷ []

abbrev pub move_to_code : ℕ → HiLo → ℕ → List Step
move_to_code bank name rs = get_register bank rs ∷ put_field (hi_lo_field name) ∷ []

abbrev pub product_code : ℕ → ProductName → ℕ → ℕ → List Step
product_code bank name rs rt =
    get_register bank rs ∷ get_register bank rt ∷ Does (instructions.Call (product_helper name))
    ∷ []

-- ---- of a register and an immediate

abbrev pub set_code : ℕ → ℕ → ℕ → List Step
set_code bank w rt = push_word w ∷ put_register bank rt ∷ []

abbrev pub combined_with_code : ℕ → IntArithmetic → ℕ → ℕ → ℕ → List Step
combined_with_code bank name rs w rt =
    get_register bank rs ∷ push_word w ∷ arithmetic name ∷ put_register bank rt ∷ []

-- a sum or an or: of register 0 it is the word, and of the word 0 a move
abbrev pub joined_with_code : ℕ → IntArithmetic → ℕ → ℕ → ℕ → List Step
joined_with_code bank name rs w rt =
    if rs == 0 then set_code bank w rt
    else if w == 0 then moved_code bank rs rt else combined_with_code bank name rs w rt

abbrev pub addi_code : ℕ → ℕ → ℕ → ℕ → Address → ℕ → List Step
addi_code bank rs w rt at word =
    get_register bank rs ∷ push_word w ∷ arithmetic Iadd
    ∷ Does (instructions.Stack Dup) ∷ get_register bank rs ∷ arithmetic Ixor
    ∷ Does (instructions.Stack Swap) ∷ Does (instructions.Stack DupX1) ∷ push_word w
    ∷ arithmetic Ixor
    ∷ overflow_code bank rt at word

abbrev pub slti_code : ℕ → ℕ → ℕ → ℕ → List Step
slti_code bank rs w rt = get_register bank rs ∷ push_word w ∷ chosen_code bank IfIcmplt rt

-- SLTIU: 0 alone is below 1
abbrev pub sltiu_code : ℕ → ℕ → ℕ → ℕ → List Step
sltiu_code bank rs w rt =
    if w == 1 then get_register bank rs ∷ chosen_code bank Ifeq rt
    else get_turned bank rs ++ push_word (turned w) ∷ chosen_code bank IfIcmplt rt

abbrev pub arithmetic_immediate_code : ℕ → ArithmeticImmediateName → ℕ → ℕ → ℕ → Address → ℕ
    → List Step
arithmetic_immediate_code bank Addi rs rt imm at word =
    addi_code bank rs (extended_imm imm) rt at word
arithmetic_immediate_code bank Addiu rs rt imm at word =
    joined_with_code bank Iadd rs (extended_imm imm) rt
arithmetic_immediate_code bank Slti rs rt imm at word = slti_code bank rs (extended_imm imm) rt
arithmetic_immediate_code bank Sltiu rs rt imm at word = sltiu_code bank rs (extended_imm imm) rt

abbrev pub logical_immediate_code : ℕ → LogicalImmediateName → ℕ → ℕ → ℕ → List Step
logical_immediate_code bank Andi rs rt imm = combined_with_code bank Iand rs imm rt
logical_immediate_code bank Ori rs rt imm = joined_with_code bank Ior rs imm rt
logical_immediate_code bank Xori rs rt imm = combined_with_code bank Ixor rs imm rt

abbrev pub load_upper_code : ℕ → ℕ → ℕ → List Step
load_upper_code bank rt imm = set_code bank (imm * 2 ^ 16) rt
