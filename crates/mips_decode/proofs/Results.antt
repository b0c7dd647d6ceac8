-- Results of single instructions at the values where a slip shows, and the conditions and targets of branches.
use Rattle.std.proofs.Common.{◌≡◌, refl, [], ◌∷◌, true, false, map, pos, negsuc, Some, None}
use Rattle.mips_definition.specs.Arithmetic.{arithmetic_result, arithmetic_immediate_result, logical_immediate_result, shifted, variable_shifted, product_hi, product_lo}
use Rattle.mips_definition.specs.Branches.{equal_taken, zero_taken, sign_taken}
use Rattle.mips_definition.specs.Targets.{branch_target, jump_target}
use Rattle.mips_definition.specs.declared.names.logical_immediate_name.LogicalImmediateName.TheVariants.{Andi, Ori, Xori}
use Rattle.mips_definition.specs.declared.names.branch_equal_name.BranchEqualName.TheVariants.{Beq, Bne}
use Rattle.mips_definition.specs.declared.names.branch_zero_name.BranchZeroName.TheVariants.{Blez, Bgtz}
use Rattle.mips_definition.specs.declared.names.branch_sign_name.BranchSignName.TheVariants.{Bltz, Bgez, Bltzal, Bgezal}
use Rattle.mips_definition.specs.declared.names.arithmetic_name.ArithmeticName.TheVariants.{Add, Sub, Subu, And, Or, Xor, Nor, Slt, Sltu}
use Rattle.mips_definition.specs.declared.names.arithmetic_immediate_name.ArithmeticImmediateName.TheVariants.{Addi, Slti, Sltiu}
use Rattle.mips_definition.specs.declared.names.shift_name.ShiftName.TheVariants.{Sll, Srl, Sra}
use Rattle.mips_definition.specs.declared.names.variable_shift_name.VariableShiftName.TheVariants.{Sllv, Srlv, Srav}
use Rattle.mips_definition.specs.declared.names.product_name.ProductName.TheVariants.{Mult, Multu, Div, Divu}

-- signed overflow at both ends, and just within
sums : map (arithmetic_result Add 0x7fffffff) (0 ∷ 1 ∷ 0xffffffff ∷ []) ≡ Some 0x7fffffff ∷ None ∷ Some 0x7ffffffe ∷ []
sums = refl

least_sums : map (arithmetic_result Add 0x80000000) (0xffffffff ∷ 0x7fffffff ∷ []) ≡ None ∷ Some 0xffffffff ∷ []
least_sums = refl

differences : map (arithmetic_result Sub 0x80000000) (0 ∷ 1 ∷ 0x80000000 ∷ []) ≡ Some 0x80000000 ∷ None ∷ Some 0 ∷ []
differences = refl

negation : map (λ b. arithmetic_result Sub 0 b) (0x80000000 ∷ 1 ∷ []) ≡ None ∷ Some 0xffffffff ∷ []
negation = refl

wrapping : map (arithmetic_result Subu 0) (0 ∷ 1 ∷ 0x80000000 ∷ []) ≡ Some 0 ∷ Some 0xffffffff ∷ Some 0x80000000 ∷ []
wrapping = refl

immediate : map (arithmetic_immediate_result Addi 0x80000000) (0 ∷ 0xffff ∷ []) ≡ Some 0x80000000 ∷ None ∷ []
immediate = refl

-- less than, with signs and without: SLTIU extends by the sign and compares without
less : map (λ b. arithmetic_result Slt b 0) (0xffffffff ∷ 0 ∷ 1 ∷ []) ≡ Some 1 ∷ Some 0 ∷ Some 0 ∷ []
less = refl

less_unsigned : map (arithmetic_result Sltu 1) (0xffffffff ∷ 1 ∷ 0 ∷ []) ≡ Some 1 ∷ Some 0 ∷ Some 0 ∷ []
less_unsigned = refl

less_immediate : arithmetic_immediate_result Slti 1 0xffff ∷ arithmetic_immediate_result Sltiu 1 0xffff ∷ [] ≡ Some 0 ∷ Some 1 ∷ []
less_immediate = refl

less_immediate_unsigned : map (λ a. arithmetic_immediate_result Sltiu a 0xffff) (0xffff ∷ 0x10000 ∷ 0xffffffff ∷ []) ≡ Some 1 ∷ Some 1 ∷ Some 0 ∷ []
less_immediate_unsigned = refl

nor : arithmetic_result Nor 0xff00ff00 0x0000ffff ≡ Some 0x00ff0000
nor = refl

-- shifts of a negative word
shifts : map (λ name. shifted name 0x80000081 4) (Sll ∷ Srl ∷ Sra ∷ []) ≡ 0x00000810 ∷ 0x08000008 ∷ 0xf8000008 ∷ []
shifts = refl

shifts_by_register : map (variable_shifted Srav 0x80000000) (0 ∷ 31 ∷ 32 ∷ 33 ∷ []) ≡ 0x80000000 ∷ 0xffffffff ∷ 0x80000000 ∷ 0xc0000000 ∷ []
shifts_by_register = refl

-- the low five bits of the amount count
amounts_of_32 : map (λ name. variable_shifted name 1 32) (Sllv ∷ Srlv ∷ Srav ∷ []) ≡ 1 ∷ 1 ∷ 1 ∷ []
amounts_of_32 = refl

-- HI and LO of a product and of a quotient
product_his : map (λ name. product_hi name 0xffffffff 2) (Mult ∷ Multu ∷ Div ∷ Divu ∷ []) ≡ 0xffffffff ∷ 1 ∷ 0xffffffff ∷ 1 ∷ []
product_his = refl

product_los : map (λ name. product_lo name 0xffffffff 2) (Mult ∷ Multu ∷ Div ∷ Divu ∷ []) ≡ 0xfffffffe ∷ 0xfffffffe ∷ 0 ∷ 0x7fffffff ∷ []
product_los = refl

-- -7 by 2 and 7 by -2: the quotient is -3, the remainder has the dividend's sign
quotients : product_lo Div 0xfffffff9 2 ∷ product_lo Div 7 0xfffffffe ∷ [] ≡ 0xfffffffd ∷ 0xfffffffd ∷ []
quotients = refl

remainders : product_hi Div 0xfffffff9 2 ∷ product_hi Div 7 0xfffffffe ∷ [] ≡ 0xffffffff ∷ 1 ∷ []
remainders = refl

zero_divisors : product_hi Div 7 0 ∷ product_lo Div 7 0 ∷ product_hi Divu 7 0 ∷ product_lo Divu 7 0 ∷ [] ≡ 7 ∷ 0xffffffff ∷ 7 ∷ 0xffffffff ∷ []
zero_divisors = refl

logic : arithmetic_result And 12 10 ∷ arithmetic_result Or 12 10 ∷ arithmetic_result Xor 12 10 ∷ [] ≡ Some 8 ∷ Some 14 ∷ Some 6 ∷ []
logic = refl

-- the immediate of logic is extended by zeros
logic_immediate : map (λ name. logical_immediate_result name 0xffff000c 0x800a) (Andi ∷ Ori ∷ Xori ∷ []) ≡ 8 ∷ 0xffff800e ∷ 0xffff8006 ∷ []
logic_immediate = refl

-- ---- conditions and targets of branches

equal : map (λ name. equal_taken name 7 7) (Beq ∷ Bne ∷ []) ≡ true ∷ false ∷ []
equal = refl

unequal : map (λ name. equal_taken name 7 8) (Beq ∷ Bne ∷ []) ≡ false ∷ true ∷ []
unequal = refl

at_most_zero : map (zero_taken Blez) (negsuc 0 ∷ pos 0 ∷ pos 1 ∷ []) ≡ true ∷ true ∷ false ∷ []
at_most_zero = refl

above_zero : map (zero_taken Bgtz) (negsuc 0 ∷ pos 0 ∷ pos 1 ∷ []) ≡ false ∷ false ∷ true ∷ []
above_zero = refl

below_zero : map (λ name. map (sign_taken name) (negsuc 0 ∷ pos 0 ∷ pos 1 ∷ [])) (Bltz ∷ Bltzal ∷ []) ≡ (true ∷ false ∷ false ∷ []) ∷ (true ∷ false ∷ false ∷ []) ∷ []
below_zero = refl

at_least_zero : map (λ name. map (sign_taken name) (negsuc 0 ∷ pos 0 ∷ pos 1 ∷ [])) (Bgez ∷ Bgezal ∷ []) ≡ (false ∷ true ∷ true ∷ []) ∷ (false ∷ true ∷ true ∷ []) ∷ []
at_least_zero = refl

-- a jump stays in the 256 megabytes of the instruction after it
jump_from_end : jump_target 0x0ffffffc 1 ≡ 0x10000004
jump_from_end = refl

branch_back : branch_target 0x00400010 0xfffe ≡ 0x0040000c
branch_back = refl
