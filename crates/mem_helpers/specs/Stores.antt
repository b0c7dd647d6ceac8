-- The helper methods that store: the word is local variable 0, the address 1 and the instruction's own address 2.
use Rattle.std.specs.Prelude.{ℕ, List, [], ◌∷◌, ◌++◌, length}
use Rattle.run_definition.specs.declared.order.Order.{Order}
use Rattle.run_definition.specs.declared.order.Order.TheVariants.{Big, Little}
use Rattle.jvm_definition.specs.declared.array_name.ArrayName.TheVariants.{Iaload, Iastore}
use Rattle.jvm_definition.specs.declared.branch_name.BranchName.TheVariants.{Ifeq, IfIcmpne}
use Rattle.jvm_definition.specs.declared.int_arithmetic.IntArithmetic.TheVariants.{Iand, Ior, Ixor}
use Rattle.jvm_definition.specs.declared.int_shift.IntShift.{IntShift}
use Rattle.jvm_definition.specs.declared.int_shift.IntShift.TheVariants.{Ishl, Iushr}
use Rattle.jvm_definition.specs.declared.return_name.ReturnName.TheVariants as returns
use Rattle.jvm_definition.specs.declared.stack_name.StackName.TheVariants.{Pop, Dup2}
use Rattle.jvm_definition.specs.declared.instruction.Instruction.TheVariants as instructions
use Rattle.emit_steps.specs.declared.step.Step.{Step}
use Rattle.emit_steps.specs.declared.step.Step.TheVariants.{Does, Skips}
use Rattle.emit_layout.specs.FieldNumbers.{writable_field}
use Rattle.emit_instructions.specs.Access.{push_word, get_field, put_field, arithmetic}
use Rattle.emit_instructions.specs.Fields.{link_field, linked_field}
use Rattle.mem_helpers.specs.declared.amount.Amount.{Amount}
use Rattle.mem_helpers.specs.Parts.{load, shift, stack, accessed, index_code, backward_code, reversed_code, ordered_code, amount_code, left_amount, right_amount}
use Rattle.mem_helpers.specs.Loads.{gives}

abbrev pub returns_nothing : List Step
returns_nothing = Does (instructions.Return returns.Return) ∷ []

-- the number of the method that ends the run where a store cannot be done
abbrev pub write_fault_number : ℕ
write_fault_number = 19

abbrev pub write_fault_code : ℕ → List Step
write_fault_code bits = load 1 ∷ load 2 ∷ push_word bits
    ∷ Does (instructions.Call write_fault_number) ∷ []

abbrev pub put_word : List Step
put_word = Does (instructions.Array Iastore) ∷ []

abbrev pub storing : ℕ → ℕ → List Step → List Step
storing bytes bits found =
    accessed writable_field 1 bytes (found ++ returns_nothing) (write_fault_code bits
    ++ returns_nothing)

-- ---- whole words

-- the word that is stored, in the order of pages
abbrev pub value_code : Order → List Step
value_code Big = load 0 ∷ []
value_code Little = reversed_code 0

abbrev pub sw_method : Order → List Step
sw_method order = storing 4 3 (index_code 1 ++ value_code order ++ put_word)

-- SC: where the address is linked, the word is stored and 1 is given, and 0 otherwise. No address is linked afterwards.
abbrev pub concluded_code : ℕ → List Step
concluded_code n = push_word 0 ∷ put_field linked_field ∷ push_word n ∷ gives

abbrev pub sc_method : Order → List Step
sc_method order =
    let store = index_code 1 ++ value_code order ++ put_word ++ concluded_code 1 in
    let linked = get_field link_field ∷ load 1 ∷ Skips IfIcmpne (length store) ∷ store in
    accessed writable_field 1 4 (get_field linked_field ∷ Skips Ifeq (length linked)
    ∷ (linked ++ stack Pop ∷ concluded_code 0))
    (write_fault_code 3 ++ push_word 0 ∷ gives)

-- ---- parts of words: the word is read, and what is stored replaces some of its bits

-- the word at the index is on the stack, with the index and the page below it
abbrev pub read_code : List Step
read_code = index_code 1 ++ stack Dup2 ∷ Does (instructions.Array Iaload) ∷ []

-- bits of the word are cleared: those that are set in a constant which is shifted
abbrev pub cut_code : IntShift → List Step
cut_code name = shift name ∷ push_word 0xFFFF_FFFF ∷ arithmetic Ixor ∷ arithmetic Iand ∷ []

abbrev pub cleared_code : ℕ → List Step → IntShift → List Step
cleared_code bits amount name = push_word bits ∷ (amount ++ cut_code name)

-- what is stored is shifted to its place among the cleared bits
abbrev pub set_code : List Step → IntShift → List Step
set_code amount name = amount ++ shift name ∷ arithmetic Ior ∷ []

abbrev pub byte_value_code : List Step
byte_value_code = load 0 ∷ push_word 255 ∷ arithmetic Iand ∷ []

abbrev pub sb_method : List Step
sb_method =
    storing 1 0 (read_code ++ cleared_code 255 (backward_code 3 1) Ishl ++ byte_value_code
    ++ set_code (backward_code 3 1) Ishl ++ put_word)

-- the half-word that is stored, in the order of pages
abbrev pub half_value_code : Order → List Step
half_value_code Big = load 0 ∷ push_word 0xFFFF ∷ arithmetic Iand ∷ []
half_value_code Little =
    load 0 ∷ push_word 255 ∷ arithmetic Iand ∷ push_word 8 ∷ shift Ishl
    ∷ load 0 ∷ push_word 8 ∷ shift Iushr ∷ push_word 255 ∷ arithmetic Iand ∷ arithmetic Ior ∷ []

-- the word without the half-word, and with it
abbrev pub half_cleared : List Step
half_cleared = read_code ++ cleared_code 0xFFFF (backward_code 2 1) Ishl

abbrev pub half_put : List Step
half_put = set_code (backward_code 2 1) Ishl ++ put_word

abbrev pub half_stored : Order → List Step
half_stored order = half_value_code order ++ half_put

abbrev pub sh_method : Order → List Step
sh_method order = storing 2 1 (half_cleared ++ half_stored order)

-- the word in the guest's order without the part, and with it in the order of pages
abbrev pub part_cleared : Order → IntShift → Amount → List Step
part_cleared order name amount = read_code ++ ordered_code order 3
    ++ cleared_code 0xFFFF_FFFF (amount_code amount) name

abbrev pub part_put : Order → IntShift → Amount → List Step
part_put order name amount = set_code (amount_code amount) name ++ ordered_code order 3 ++ put_word

-- SWL and SWR: the word of memory is turned into the guest's order and back
abbrev pub part_code : Order → IntShift → Amount → List Step
part_code order name amount = part_cleared order name amount ++ load 0 ∷ part_put order name amount

abbrev pub swl_method : Order → List Step
swl_method order = storing 1 0 (part_code order Iushr (left_amount order))

abbrev pub swr_method : Order → List Step
swr_method order = storing 1 0 (part_code order Ishl (right_amount order))
