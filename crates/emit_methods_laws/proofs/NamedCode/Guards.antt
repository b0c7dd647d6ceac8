-- The guards of units, which name the field of the meter too.
use Rattle.std.proofs.Common.{ℕ, ◌<◌, Bool, List, [], ◌∷◌, Option, Some, None, refl, arith}
use Rattle.mips_definition.specs.Branches.{equal_likely, zero_likely, sign_likely}
use Rattle.mips_definition.specs.declared.inst.Inst.{Inst}
use Rattle.mips_definition.specs.declared.inst.Inst.TheVariants as inst
use Rattle.delay_slots.specs.declared.unit.Unit.{Unit}
use Rattle.delay_slots.specs.declared.unit.Unit.TheVariants.{Plain, Branch, SlotMissing, SlotIsBranch, Call, Trap}
use Rattle.block_builder.specs.Registers.{read_by}
use Rattle.jvm_definition.specs.declared.branch_name.BranchName.{BranchName}
use Rattle.emit_steps.specs.declared.step.Step.{Step}
use Rattle.emit_instructions.specs.Access.{get_register}
use Rattle.emit_instructions.specs.Branching.{equal_test, zero_test, sign_test}
use Rattle.meter.specs.Guards.{likely_guard, likely_test, branch_guard, transfer_guard, guard_code}
use Rattle.emit_simulation_laws.specs.Knowing.{AreNumbers}
use Rattle.emit_simulation_laws.specs.Lawful.{IsLawful}
use Rattle.emit_methods_laws.specs.Naming.{is_helper}
use Rattle.emit_methods_laws.proofs.NamedCode.Steps.{Well, WellOf, get-well, append-of, fields-more}

module _ (class : ℕ) (gives : Bool) where
  abbrev Named : List Step → Type 0
  Named code = WellOf 39 is_helper class gives code

  plain : (code : List Step) → Well is_helper class gives code → Named code
  plain code is = fields-more 38 39 (omega arith) is_helper class gives code is

  branched : (likely : Option BranchName) (pushed : List Step) (at : ℕ) → Named pushed → Named (branch_guard likely pushed at)
  branched None pushed at own = refl
  branched (Some test) pushed at own = append-of 39 is_helper class gives pushed (likely_guard test at) own refl

  one : (r : ℕ) → r < 32 → Named (get_register 0 r ∷ [])
  one r h = plain (get_register 0 r ∷ []) (rw (get-well is_helper class gives 0 r h) refl)

  two : (r s : ℕ) → r < 32 → s < 32 → Named (get_register 0 r ∷ get_register 0 s ∷ [])
  two r s h k =
      plain (get_register 0 r ∷ get_register 0 s ∷ []) (rw (get-well is_helper class gives 0 r h, get-well is_helper class gives 0 s k) refl)

  transfer : (i : Inst) (at : ℕ) → AreNumbers (read_by i) → Named (transfer_guard i at)
  transfer (inst.BranchEqual name rs rt imm) at reads =
      branched (likely_test (equal_likely name) (equal_test name)) (get_register 0 rs ∷ get_register 0 rt ∷ []) at (two rs rt reads.0 reads.1.0)
  transfer (inst.BranchZero name rs imm) at reads =
      branched (likely_test (zero_likely name) (zero_test name)) (get_register 0 rs ∷ []) at (one rs reads.0)
  transfer (inst.BranchSign name rs imm) at reads =
      branched (likely_test (sign_likely name) (sign_test name)) (get_register 0 rs ∷ []) at (one rs reads.0)
  transfer other at reads = refl

  pub guard-well : (unit : Unit) (at : ℕ) → IsLawful unit → Named (guard_code unit at)
  guard-well (Plain i) at lawful = refl
  guard-well (Branch i slot) at lawful = transfer i at lawful.0.fields.reads
  guard-well (SlotMissing i) at lawful = transfer i at lawful.fields.reads
  guard-well (SlotIsBranch i word) at lawful = transfer i at lawful.0.fields.reads
  guard-well Call at lawful = refl
  guard-well (Trap kind value) at lawful = refl
