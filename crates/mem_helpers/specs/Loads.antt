-- The helper methods that load: the address is their last parameter but one, the instruction's own address the last one.
use Rattle.std.specs.Prelude.{ℕ, ◌+◌, List, [], ◌∷◌, ◌++◌}
use Rattle.run_definition.specs.declared.order.Order.{Order}
use Rattle.run_definition.specs.declared.order.Order.TheVariants.{Big, Little}
use Rattle.jvm_definition.specs.declared.array_name.ArrayName.TheVariants.{Iaload}
use Rattle.jvm_definition.specs.declared.conversion.Conversion.{Conversion}
use Rattle.jvm_definition.specs.declared.conversion.Conversion.TheVariants.{I2b, I2c, I2s}
use Rattle.jvm_definition.specs.declared.int_arithmetic.IntArithmetic.TheVariants.{Iand, Ior, Ixor}
use Rattle.jvm_definition.specs.declared.int_shift.IntShift.{IntShift}
use Rattle.jvm_definition.specs.declared.int_shift.IntShift.TheVariants.{Ishl, Iushr}
use Rattle.jvm_definition.specs.declared.return_name.ReturnName.TheVariants.{Ireturn}
use Rattle.jvm_definition.specs.declared.stack_name.StackName.TheVariants.{Dup, Swap}
use Rattle.jvm_definition.specs.declared.instruction.Instruction.TheVariants as instructions
use Rattle.emit_steps.specs.declared.step.Step.{Step}
use Rattle.emit_steps.specs.declared.step.Step.TheVariants.{Does}
use Rattle.emit_layout.specs.FieldNumbers.{readable_field}
use Rattle.emit_instructions.specs.Access.{push_word, put_field, arithmetic}
use Rattle.emit_instructions.specs.Fields.{link_field, linked_field}
use Rattle.mem_helpers.specs.declared.amount.Amount.{Amount}
use Rattle.mem_helpers.specs.Parts.{load, shift, stack, accessed, index_code, backward_code, ordered_code, amount_code, left_amount, right_amount}

abbrev pub gives : List Step
gives = Does (instructions.Return Ireturn) ∷ []

-- the number of the method that ends the run where a load cannot be done, by the address, the instruction's address and the bits that
-- have to be 0 in the address
abbrev pub read_fault_number : ℕ
read_fault_number = 18

abbrev pub read_fault_code : ℕ → ℕ → List Step
read_fault_code a bits = load a ∷ load (a + 1) ∷ push_word bits
    ∷ Does (instructions.Call read_fault_number) ∷ gives

-- the word of a page that is on the stack
abbrev pub word_code : ℕ → List Step
word_code a = index_code a ++ Does (instructions.Array Iaload) ∷ []

abbrev pub loading : ℕ → ℕ → ℕ → List Step → List Step
loading a bytes bits found =
    accessed readable_field a bytes (word_code a ++ found ++ gives) (read_fault_code a bits)

-- ---- whole words

abbrev pub lw_method : Order → List Step
lw_method order = loading 0 4 3 (ordered_code order 2)

-- LL: the address is linked
abbrev pub ll_method : Order → List Step
ll_method order =
    loading 0 4 3 (ordered_code order 2 ++ load 0 ∷ put_field link_field ∷ push_word 1
    ∷ put_field linked_field ∷ [])

-- ---- bytes and half-words

abbrev pub converted : Conversion → List Step
converted name = Does (instructions.Convert name) ∷ []

abbrev pub byte_code : List Step
byte_code = backward_code 3 0 ++ shift Iushr ∷ []

-- the two low bytes of what is on the stack, turned round, with other bits above them
abbrev pub turned_half_code : List Step
turned_half_code =
    stack Dup ∷ push_word 8 ∷ shift Ishl ∷ stack Swap ∷ push_word 8 ∷ shift Iushr ∷ push_word 255
    ∷ arithmetic Iand ∷ arithmetic Ior ∷ []

-- the half-word at the address in the guest's order, with other bits above it
abbrev pub half_ordered_code : Order → List Step
half_ordered_code Big = []
half_ordered_code Little = turned_half_code

abbrev pub half_code : Order → List Step
half_code order = backward_code 2 0 ++ shift Iushr ∷ half_ordered_code order

abbrev pub lh_method : Order → List Step
lh_method order = loading 0 2 1 (half_code order ++ converted I2s)

abbrev pub lhu_method : Order → List Step
lhu_method order = loading 0 2 1 (half_code order ++ converted I2c)

abbrev pub lb_method : List Step
lb_method = loading 0 1 0 (byte_code ++ converted I2b)

abbrev pub lbu_method : List Step
lbu_method = loading 0 1 0 (byte_code ++ push_word 255 ∷ arithmetic Iand ∷ [])

-- ---- parts of words. The register's word is local variable 0, the address 1.

-- The word on the stack is shifted, and where the shift left zeros the register's bytes stay.
abbrev pub kept_code : IntShift → Amount → List Step
kept_code name amount =
    amount_code amount ++ shift name ∷ load 0 ∷ push_word 0xFFFF_FFFF
    ∷ (amount_code amount ++ shift name ∷ push_word 0xFFFF_FFFF ∷ arithmetic Ixor ∷ arithmetic Iand
    ∷ arithmetic Ior ∷ [])

abbrev pub lwl_method : Order → List Step
lwl_method order = loading 1 1 0 (ordered_code order 3 ++ kept_code Ishl (left_amount order))

abbrev pub lwr_method : Order → List Step
lwr_method order = loading 1 1 0 (ordered_code order 3 ++ kept_code Iushr (right_amount order))
