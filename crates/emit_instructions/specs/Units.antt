-- The code of each unit, at its address.
use Rattle.std.specs.Prelude.{ℕ, ◌+◌, ◌%◌, ◌^◌, List, [], ◌∷◌}
use Rattle.jvm_definition.specs.declared.instruction.Instruction.TheVariants.{Nop}
use Rattle.mips_definition.specs.Effect.{fetch_fault, break_fault, reserved_fault, branch_in_slot_fault}
use Rattle.mips_decode.specs.Encoding.{word_of}
use Rattle.mips_definition.specs.Targets.{extended_imm}
use Rattle.mips_definition.specs.declared.inst.Inst.{Inst}
use Rattle.mips_definition.specs.declared.inst.Inst.TheVariants as inst
use Rattle.delay_slots.specs.declared.unit.Unit.{Unit}
use Rattle.delay_slots.specs.declared.unit.Unit.TheVariants.{Plain, Branch, SlotMissing, SlotIsBranch, Call, Trap}
use Rattle.delay_slots.specs.Places.{Address}
use Rattle.emit_steps.specs.declared.step.Step.{Step}
use Rattle.emit_steps.specs.declared.step.Step.TheVariants.{Does}
use Rattle.emit_instructions.specs.Computing.{arithmetic_code, shift_code, variable_shift_code, move_from_code, move_to_code, product_code, arithmetic_immediate_code, logical_immediate_code, load_upper_code}
use Rattle.emit_instructions.specs.Faulting.{fault_code, trap_code, trap_with_code}
use Rattle.emit_instructions.specs.Accessing.{load_code, store_code, load_linked_code, store_conditional_code, call_code}
use Rattle.emit_instructions.specs.Branching.{transfer_code}

-- an instruction that is no branch and no jump, at an address, alone or in a delay slot
abbrev pub instruction_code : ℕ → Inst → Address → List Step
instruction_code bank (inst.Arithmetic name rs rt rd) at =
    arithmetic_code bank name rs rt rd at (word_of (inst.Arithmetic name rs rt rd))
instruction_code bank (inst.VariableShift name rs rt rd) at = variable_shift_code bank name rs rt rd
instruction_code bank (inst.Shift name rt rd sa) at = shift_code bank name rt rd sa
instruction_code bank (inst.Syscall code) at = call_code bank
instruction_code bank (inst.Break code) at = fault_code break_fault at code
instruction_code bank (inst.MoveFrom name rd) at = move_from_code bank name rd
instruction_code bank (inst.MoveTo name rs) at = move_to_code bank name rs
instruction_code bank (inst.Product name rs rt) at = product_code bank name rs rt
instruction_code bank (inst.ArithmeticImmediate name rs rt imm) at =
    arithmetic_immediate_code bank name rs rt imm at
    (word_of (inst.ArithmeticImmediate name rs rt imm))
instruction_code bank (inst.LogicalImmediate name rs rt imm) at =
    logical_immediate_code bank name rs rt imm
instruction_code bank (inst.LoadUpper rt imm) at = load_upper_code bank rt imm
instruction_code bank (inst.Load name rs rt imm) at = load_code bank name rs rt imm at
instruction_code bank (inst.Store name rs rt imm) at = store_code bank name rs rt imm at
instruction_code bank (inst.Trap name rs rt code) at =
    trap_code bank name rs rt at (word_of (inst.Trap name rs rt code))
instruction_code bank (inst.TrapImmediate name rs imm) at =
    trap_with_code bank name rs (extended_imm imm) at (word_of (inst.TrapImmediate name rs imm))
instruction_code bank (inst.Sync sa) at = Does Nop ∷ []
instruction_code bank (inst.LoadLinked rs rt imm) at = load_linked_code bank rs rt imm at
instruction_code bank (inst.StoreConditional rs rt imm) at =
    store_conditional_code bank rs rt imm at
instruction_code bank (inst.Reserved word) at = fault_code reserved_fault at word
instruction_code bank other at = []

-- where the next word stands
abbrev pub next_address : Address → Address
next_address at = (at + 4) % 2 ^ 32

-- A branch whose slot is missing or wrong faults there, unless it is a likely one and is not taken.
abbrev pub unit_code : ℕ → Unit → Address → List Step
unit_code bank (Plain i) at = instruction_code bank i at
unit_code bank (Branch i slot) at =
    transfer_code bank i at (instruction_code bank slot (next_address at))
unit_code bank (SlotMissing i) at =
    transfer_code bank i at (fault_code fetch_fault (next_address at) (next_address at))
unit_code bank (SlotIsBranch i word) at =
    transfer_code bank i at (fault_code branch_in_slot_fault (next_address at) word)
unit_code bank Call at = call_code bank
unit_code bank (Trap kind value) at = fault_code kind at value
