-- Parts of the helper methods' code. Tables of pages are arrays of 524,288 pages, and a page is an array of 1,024 words: the byte at
-- address a is lane a modulo 4 of word (a / 4) modulo 1,024 of page a / 4,096.
use Rattle.std.specs.Prelude.{ℕ, ◌+◌, ◌==◌, if◌then◌else◌, List, [], ◌∷◌, ◌++◌, length}
use Rattle.run_definition.specs.declared.order.Order.{Order}
use Rattle.run_definition.specs.declared.order.Order.TheVariants.{Big, Little}
use Rattle.jvm_definition.specs.declared.array_name.ArrayName.TheVariants.{Aaload}
use Rattle.jvm_definition.specs.declared.int_arithmetic.IntArithmetic.TheVariants.{Iand, Ior, Ixor}
use Rattle.jvm_definition.specs.declared.int_shift.IntShift.{IntShift}
use Rattle.jvm_definition.specs.declared.int_shift.IntShift.TheVariants.{Ishl, Iushr}
use Rattle.jvm_definition.specs.declared.stack_name.StackName.{StackName}
use Rattle.jvm_definition.specs.declared.stack_name.StackName.TheVariants.{Pop, Dup}
use Rattle.jvm_definition.specs.declared.branch_name.BranchName.TheVariants.{Ifne, Iflt, Ifnull}
use Rattle.jvm_definition.specs.declared.kind.Kind.TheVariants as kinds
use Rattle.jvm_definition.specs.declared.local_kind.LocalKind.TheVariants as local_kinds
use Rattle.jvm_definition.specs.declared.instruction.Instruction.TheVariants as instructions
use Rattle.emit_steps.specs.declared.step.Step.{Step}
use Rattle.emit_steps.specs.declared.step.Step.TheVariants.{Does, Skips}
use Rattle.emit_instructions.specs.Access.{push_word, arithmetic}
use Rattle.mem_helpers.specs.declared.amount.Amount.{Amount}
use Rattle.mem_helpers.specs.declared.amount.Amount.TheVariants.{Forward, Backward}

abbrev pub load : ℕ → Step
load i = Does (instructions.Load local_kinds.Int i)

abbrev pub shift : IntShift → Step
shift name = Does (instructions.IntShift name)

abbrev pub stack : StackName → Step
stack name = Does (instructions.Stack name)

-- ---- finding a word. The address is in a local variable.

-- an address is neither aligned to 1, 2 or 4 bytes nor below 80000000: that many of the following steps are passed over
abbrev pub unfit_code : ℕ → ℕ → ℕ → List Step
unfit_code a bytes over =
    if bytes == 1 then load a ∷ Skips Iflt over ∷ []
    else load a ∷ push_word (0x7FFF_FFFF + bytes) ∷ arithmetic Iand ∷ Skips Ifne over ∷ []

-- the address's page of a table is pushed; where none is there, null is, and that many of the following steps are passed over
abbrev pub page_code : ℕ → ℕ → ℕ → List Step
page_code table a over =
    Does (instructions.Get table kinds.Pages) ∷ load a ∷ push_word 12 ∷ shift Iushr
    ∷ Does (instructions.Array Aaload)
    ∷ stack Dup ∷ Skips Ifnull over ∷ []

-- the number of the address's word in its page
abbrev pub index_code : ℕ → List Step
index_code a = load a ∷ push_word 2 ∷ shift Iushr ∷ push_word 1023 ∷ arithmetic Iand ∷ []

-- The address is tested and its page is found, then comes the code that has the page on the stack and returns; behind it is the
-- code of a fault, before which the page is dropped.
abbrev pub accessed : ℕ → ℕ → ℕ → List Step → List Step → List Step
accessed table a bytes found fault =
    let page = page_code table a (length found) in
    unfit_code a bytes (length page + length found + 1) ++ page ++ found ++ stack Pop ∷ fault

-- ---- how far a part of a word is shifted. Counts of shifts are taken modulo 32.

-- eight times the address
abbrev pub forward_code : ℕ → List Step
forward_code a = load a ∷ push_word 3 ∷ shift Ishl ∷ []

-- eight times the address whose low bits are turned: from the other end of the word
abbrev pub backward_code : ℕ → ℕ → List Step
backward_code low a = load a ∷ push_word low ∷ arithmetic Ixor ∷ push_word 3 ∷ shift Ishl ∷ []

-- the address of a part of a word is in local variable 1
abbrev pub amount_code : Amount → List Step
amount_code Forward = forward_code 1
amount_code Backward = backward_code 3 1

-- how far the left part of a word is from the most significant byte, and the right part from the least
abbrev pub left_amount : Order → Amount
left_amount Big = Forward
left_amount Little = Backward

abbrev pub right_amount : Order → Amount
right_amount Big = Backward
right_amount Little = Forward

-- ---- the guest's order: pages have the byte of the lowest address in the most significant lane

-- a word's bytes are turned round; it is in a local variable
abbrev pub reversed_code : ℕ → List Step
reversed_code w =
    load w ∷ push_word 24 ∷ shift Iushr
    ∷ load w ∷ push_word 8 ∷ shift Iushr ∷ push_word 0xFF00 ∷ arithmetic Iand ∷ arithmetic Ior
    ∷ load w ∷ push_word 0xFF00 ∷ arithmetic Iand ∷ push_word 8 ∷ shift Ishl ∷ arithmetic Ior
    ∷ load w ∷ push_word 24 ∷ shift Ishl ∷ arithmetic Ior ∷ []

-- the word on the stack in the guest's order, with a local variable that is free
abbrev pub ordered_code : Order → ℕ → List Step
ordered_code Big free = []
ordered_code Little free = Does (instructions.Store local_kinds.Int free) ∷ reversed_code free
