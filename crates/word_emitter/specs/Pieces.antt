-- The code of a piece: words that are done one after the other, over local variables for the registers that they read or write.
use Rattle.std.specs.Prelude.{ℕ, ◌+◌, ◌-◌, Bool, false, not, ◌&&◌, ◌||◌, ◌==◌, nat_le, if◌then◌else◌, List, [], ◌∷◌, ◌++◌, take, drop, bit_or}
use Rattle.std.specs.Int.{bit_at}
use Rattle.std.specs.List.{list_any, flat_map, range_with_len}
use Rattle.mips_definition.specs.Branches.{equal_likely, zero_likely, sign_likely}
use Rattle.mips_definition.specs.declared.inst.Inst.{Inst}
use Rattle.mips_definition.specs.declared.inst.Inst.TheVariants.{BranchSign, BranchEqual, BranchZero}
use Rattle.delay_slots.specs.declared.unit.Unit.{Unit}
use Rattle.delay_slots.specs.declared.unit.Unit.TheVariants.{Branch}
use Rattle.delay_slots.specs.Places.{Address}
use Rattle.block_builder.specs.declared.block.Block.{Block}
use Rattle.block_builder.specs.Registers.{Register, register_set, read_by, written_by, unit_reads, unit_writes}
use Rattle.block_builder.specs.Leaders.{words_of}
use Rattle.block_builder.specs.Blocks.{unit_at}
use Rattle.jvm_definition.specs.declared.local_kind.LocalKind.TheVariants as local_kinds
use Rattle.jvm_definition.specs.declared.instruction.Instruction.TheVariants.{Load, Store}
use Rattle.emit_steps.specs.declared.step.Step.{Step}
use Rattle.emit_steps.specs.declared.step.Step.TheVariants.{Does}
use Rattle.emit_layout.specs.FieldNumbers.{register_field}
use Rattle.emit_instructions.specs.Access.{get_field, put_field}
use Rattle.emit_instructions.specs.Units.{unit_code}

-- ---- registers

abbrev pub is_in : ℕ → List Register → Bool
is_in r registers = bit_at (register_set registers) r == 1

abbrev pub is_likely : Inst → Bool
is_likely (BranchEqual name rs rt imm) = equal_likely name
is_likely (BranchZero name rs imm) = zero_likely name
is_likely (BranchSign name rs imm) = sign_likely name
is_likely _ = false

-- The code of a unit needs what a register holds before it: it reads it before it writes it, or it does not write it where a likely
-- branch passes its slot over.
abbrev pub needs : Unit → ℕ → Bool
needs (Branch i slot) r =
    is_in r (read_by i) || (not (is_in r (written_by i)) && is_in r (read_by slot))
    || (is_likely i && is_in r (written_by slot))
needs unit r = is_in r (unit_reads unit)

-- one of the units needs what a register holds before all of them
abbrev pub is_needed : List Unit → ℕ → Bool
is_needed [] r = false
is_needed (unit ∷ units) r = needs unit r || (not (is_in r (unit_writes unit)) && is_needed units r)

abbrev pub is_written : List Unit → ℕ → Bool
is_written units r = list_any (λ unit. is_in r (unit_writes unit)) units

-- the registers that a piece keeps in local variables: all that it reads or writes
abbrev pub bank_of : List Unit → ℕ
bank_of units =
    bit_or (register_set (flat_map unit_reads units)) (register_set (flat_map unit_writes units))

-- ---- code

abbrev pub units_code : ℕ → List Unit → Address → List Step
units_code bank [] at = []
units_code bank (unit ∷ units) at = unit_code bank unit at ++ units_code bank units (at + 4)

-- what a register holds is put into its local variable, and back
abbrev pub fetched : ℕ → List Step
fetched r = get_field (register_field r) ∷ Does (Store local_kinds.Int r) ∷ []

abbrev pub put_back : ℕ → List Step
put_back r = Does (Load local_kinds.Int r) ∷ put_field (register_field r) ∷ []

abbrev pub for_registers : (ℕ → Bool) → (ℕ → List Step) → List Step
for_registers test code = flat_map (λ r. if test r then code r else []) (range_with_len 1 31)

-- Registers whose words are needed are put into local variables, the units are done over these, and the registers that were written
-- are put back.
abbrev pub warm_code : List Unit → Address → List Step
warm_code units at =
    for_registers (is_needed units) fetched ++ units_code (bank_of units) units at
    ++ for_registers (is_written units) put_back

-- the units of a piece: those of its words but for the word of the delay slot of its branch, which is in the branch's unit
abbrev pub ends_with_slot : List Unit → Block → Bool
ends_with_slot units b = nat_le 2 b.words && words_of (unit_at units (b.first + b.words - 2)) == 2

abbrev pub piece_units : List Unit → Block → List Unit
piece_units units b = take (if ends_with_slot units b then b.words - 1
    else b.words) (drop b.first units)
