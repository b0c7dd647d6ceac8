-- The helper methods in the order in which they stand in the main class, and the two that end the run for them.
use Rattle.std.specs.Prelude.{ℕ, ◌==◌, if◌then◌else◌, List, [], ◌∷◌, ◌++◌}
use Rattle.run_definition.specs.declared.order.Order.{Order}
use Rattle.mips_definition.specs.Effect.{read_unmapped_fault, read_align_fault, write_refused_fault, write_align_fault}
use Rattle.jvm_definition.specs.declared.branch_name.BranchName.TheVariants.{Ifne, Goto}
use Rattle.jvm_definition.specs.declared.int_arithmetic.IntArithmetic.TheVariants.{Iand}
use Rattle.jvm_definition.specs.declared.instruction.Instruction.TheVariants as instructions
use Rattle.emit_steps.specs.declared.step.Step.{Step}
use Rattle.emit_steps.specs.declared.step.Step.TheVariants.{Does, Skips}
use Rattle.emit_instructions.specs.Access.{push_word, arithmetic}
use Rattle.mem_helpers.specs.Parts.{load}
use Rattle.mem_helpers.specs.Loads.{gives, lw_method, lh_method, lhu_method, lb_method, lbu_method, lwl_method, lwr_method, ll_method}
use Rattle.mem_helpers.specs.Stores.{returns_nothing, sw_method, sh_method, sb_method, swl_method, swr_method, sc_method}
use Rattle.mem_helpers.specs.Products.{div_method, divu_method, mult_method, multu_method}

-- an address, the instruction's address, and the bits that have to be 0: the fault is that of alignment where one of them is set
abbrev pub fault_code : ℕ → ℕ → List Step
fault_code unmapped unaligned =
    load 0 ∷ load 2 ∷ arithmetic Iand ∷ Skips Ifne 2 ∷ push_word unmapped ∷ Skips Goto 1
    ∷ push_word unaligned
    ∷ load 1 ∷ load 0 ∷ Does instructions.FaultHost ∷ []

abbrev pub read_fault_method : List Step
read_fault_method = fault_code read_unmapped_fault read_align_fault ++ push_word 0 ∷ gives

abbrev pub write_fault_method : List Step
write_fault_method = fault_code write_refused_fault write_align_fault ++ returns_nothing

-- the methods that compute, link or end the run, from number 12 on
abbrev pub other_code : Order → ℕ → List Step
other_code order number =
    if number == 12 then div_method
    else if number == 13 then divu_method
    else if number == 14 then mult_method
    else if number == 15 then multu_method
    else if number == 16 then ll_method order
    else if number == 17 then sc_method order
    else if number == 18 then read_fault_method
    else if number == 19 then write_fault_method
    else []

-- the methods that store, from number 7 on, and the others
abbrev pub store_code : Order → ℕ → List Step
store_code order number =
    if number == 7 then sw_method order
    else if number == 8 then sh_method order
    else if number == 9 then sb_method
    else if number == 10 then swl_method order
    else if number == 11 then swr_method order
    else other_code order number

-- the code of each method, by its number
abbrev pub helper_code : Order → ℕ → List Step
helper_code order number =
    if number == 0 then lw_method order
    else if number == 1 then lh_method order
    else if number == 2 then lhu_method order
    else if number == 3 then lb_method
    else if number == 4 then lbu_method
    else if number == 5 then lwl_method order
    else if number == 6 then lwr_method order
    else store_code order number
