-- The code of loads and stores, and of calls of the system.
use Rattle.std.specs.Prelude.{ℕ, ◌==◌, if◌then◌else◌, List, [], ◌∷◌, ◌++◌}
use Rattle.mips_definition.specs.Targets.{extended_imm}
use Rattle.mips_definition.specs.declared.names.load_name.LoadName.{LoadName}
use Rattle.mips_definition.specs.declared.names.load_name.LoadName.TheVariants.{Lwl, Lwr}
use Rattle.mips_definition.specs.declared.names.store_name.StoreName.{StoreName}
use Rattle.delay_slots.specs.Places.{Address}
use Rattle.jvm_definition.specs.declared.int_arithmetic.IntArithmetic.TheVariants.{Iadd}
use Rattle.jvm_definition.specs.declared.kind.Kind.TheVariants as kinds
use Rattle.jvm_definition.specs.declared.instruction.Instruction.TheVariants.{Call, CallHost, Get}
use Rattle.emit_steps.specs.declared.step.Step.{Step}
use Rattle.emit_steps.specs.declared.step.Step.TheVariants.{Does}
use Rattle.emit_layout.specs.FieldNumbers.{readable_field, writable_field}
use Rattle.emit_instructions.specs.Access.{push_word, put_field, arithmetic, get_register, put_register}
use Rattle.emit_instructions.specs.Fields.{linked_field}
use Rattle.emit_instructions.specs.Helpers.{load_helper, store_helper, load_linked_helper, store_conditional_helper}

-- the address of an access: rs and the signed immediate
abbrev pub address_code : ℕ → ℕ → ℕ → List Step
address_code bank rs w = if w == 0 then get_register bank rs ∷ []
    else get_register bank rs ∷ push_word w ∷ arithmetic Iadd ∷ []

-- an address and the instruction's own address are given to a helper
abbrev pub access_code : ℕ → ℕ → ℕ → ℕ → Address → List Step
access_code bank helper rs imm at = address_code bank rs (extended_imm imm)
    ++ push_word at ∷ Does (Call helper) ∷ []

-- LWL and LWR keep bytes of the register, so what it holds is given too
abbrev pub load_code : ℕ → LoadName → ℕ → ℕ → ℕ → Address → List Step
load_code bank Lwl rs rt imm at =
    get_register bank rt ∷ (access_code bank (load_helper Lwl) rs imm at
    ++ put_register bank rt ∷ [])
load_code bank Lwr rs rt imm at =
    get_register bank rt ∷ (access_code bank (load_helper Lwr) rs imm at
    ++ put_register bank rt ∷ [])
load_code bank name rs rt imm at = access_code bank (load_helper name) rs imm at
    ++ put_register bank rt ∷ []

abbrev pub store_code : ℕ → StoreName → ℕ → ℕ → ℕ → Address → List Step
store_code bank name rs rt imm at =
    get_register bank rt ∷ access_code bank (store_helper name) rs imm at

abbrev pub load_linked_code : ℕ → ℕ → ℕ → ℕ → Address → List Step
load_linked_code bank rs rt imm at = access_code bank load_linked_helper rs imm at
    ++ put_register bank rt ∷ []

-- SC: the helper gives whether it stored
abbrev pub store_conditional_code : ℕ → ℕ → ℕ → ℕ → Address → List Step
store_conditional_code bank rs rt imm at =
    get_register bank rt ∷ (access_code bank store_conditional_helper rs imm at
    ++ put_register bank rt ∷ [])

-- the tables of pages, r2 and r4 to r7
abbrev pub call_words : ℕ → List Step
call_words bank =
    Does (Get readable_field kinds.Pages) ∷ Does (Get writable_field kinds.Pages)
    ∷ get_register bank 2 ∷ get_register bank 4 ∷ get_register bank 5 ∷ get_register bank 6
    ∷ get_register bank 7 ∷ []

-- SYSCALL: the answer goes to r2, and no address is linked any more
abbrev pub call_code : ℕ → List Step
call_code bank = call_words bank ++ Does CallHost ∷ put_register bank 2 ∷ push_word 0
    ∷ put_field linked_field ∷ []
