use Rattle.std.proofs.Common.{◌≡◌, true, false}
use Rattle.mips_definition.specs.declared.inst.Inst.TheVariants as inst
use Rattle.emit_instructions_laws.proofs.laws.instructions_are_followed.Goals as goal

differ : true ≡ false → ⊥
differ e = cc

pub returns : goal.returns
returns c (inst.Arithmetic name rs rt rd) is = c.arithmetic_is_followed.ensures name rs rt rd
returns c (inst.VariableShift name rs rt rd) is = c.variable_shifts_are_followed.ensures name rs rt rd
returns c (inst.Shift name rt rd sa) is = c.shifts_are_followed.ensures name rt rd sa
returns c (inst.JumpRegister rs) is = absurd (differ is.is_none)
returns c (inst.JumpAndLinkRegister rs rd) is = absurd (differ is.is_none)
returns c (inst.Syscall code) is = c.calls_are_followed.ensures code
returns c (inst.Break code) is = c.breaks_are_followed.ensures code
returns c (inst.MoveFrom name rd) is = c.moves_from_are_followed.ensures name rd
returns c (inst.MoveTo name rs) is = c.moves_to_are_followed.ensures name rs
returns c (inst.Product name rs rt) is = c.products_are_followed.ensures name rs rt
returns c (inst.BranchSign name rs imm) is = absurd (differ is.is_none)
returns c (inst.Jump name index) is = absurd (differ is.is_none)
returns c (inst.BranchEqual name rs rt imm) is = absurd (differ is.is_none)
returns c (inst.BranchZero name rs imm) is = absurd (differ is.is_none)
returns c (inst.ArithmeticImmediate name rs rt imm) is = c.arithmetic_immediates_are_followed.ensures name rs rt imm
returns c (inst.LogicalImmediate name rs rt imm) is = c.logical_immediates_are_followed.ensures name rs rt imm
returns c (inst.LoadUpper rt imm) is = c.load_upper_is_followed.ensures rt imm
returns c (inst.Load name rs rt imm) is = c.loads_are_followed.ensures name rs rt imm
returns c (inst.Store name rs rt imm) is = c.stores_are_followed.ensures name rs rt imm
returns c (inst.Trap name rs rt code) is = c.traps_are_followed.ensures name rs rt code
returns c (inst.TrapImmediate name rs imm) is = c.trap_immediates_are_followed.ensures name rs imm
returns c (inst.Sync sa) is = c.syncs_are_followed.ensures sa
returns c (inst.LoadLinked rs rt imm) is = c.linked_loads_are_followed.ensures rs rt imm
returns c (inst.StoreConditional rs rt imm) is = c.conditional_stores_are_followed.ensures rs rt imm
returns c (inst.Reserved word) is = c.reserved_words_are_followed.ensures word
returns c (inst.Float word) is = absurd (differ is.no_float)
