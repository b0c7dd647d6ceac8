-- The code of units and of pieces.
use Rattle.std.proofs.Common.{ℕ, zero, suc, ◌+◌, ◌≤◌, ◌<◌, Bool, true, false, if◌then◌else◌, List, [], ◌∷◌, ◌++◌, All, refl, arith}
use Rattle.std.specs.List.{flat_map, range_with_len}
use Rattle.std.proofs.lemmas.List.Elements.{All-head, All-tail}
use Rattle.mips_definition.specs.Effect.{fetch_fault, branch_in_slot_fault}
use Rattle.mips_definition.specs.declared.inst.Inst.{Inst}
use Rattle.delay_slots.specs.declared.unit.Unit.{Unit}
use Rattle.delay_slots.specs.declared.unit.Unit.TheVariants.{Plain, Branch, SlotMissing, SlotIsBranch, Call, Trap}
use Rattle.emit_steps.specs.declared.step.Step.{Step}
use Rattle.emit_instructions.specs.Faulting.{fault_code}
use Rattle.emit_instructions.specs.Units.{instruction_code, unit_code, next_address}
use Rattle.word_emitter.specs.Pieces.{is_needed, is_written, bank_of, units_code, fetched, put_back, for_registers, warm_code}
use Rattle.emit_simulation_laws.specs.Knowing.{HasFields}
use Rattle.emit_simulation_laws.specs.Lawful.{IsLawful}
use Rattle.emit_methods_laws.specs.Naming.{is_helper}
use Rattle.emit_methods_laws.proofs.NamedCode.Steps.{Well, field-is, well-append}
use Rattle.emit_methods_laws.proofs.NamedCode.Instructions.{call, instruction-well}
use Rattle.emit_methods_laws.proofs.NamedCode.Transfers.{transfer-well}

module _ (class : ℕ) (gives : Bool) where
  abbrev Named : List Step → Type 0
  Named code = Well is_helper class gives code

  joined : (xs ys : List Step) → Named xs → Named ys → Named (xs ++ ys)
  joined xs ys h k = well-append is_helper class gives xs ys h k

  -- ---- units

  instruction : (bank : ℕ) (i : Inst) (at : ℕ) → HasFields i → Named (instruction_code bank i at)
  instruction bank i at fields = instruction-well class gives bank i at fields.reads fields.writes

  pub unit-well : (bank : ℕ) (unit : Unit) (at : ℕ) → IsLawful unit → Named (unit_code bank unit at)
  unit-well bank (Plain i) at lawful = instruction bank i at lawful.0.fields
  unit-well bank (Branch i slot) at lawful =
      transfer-well class gives bank at (instruction_code bank slot (next_address at)) (instruction bank slot (next_address at) lawful.1.fields) i
      lawful.0.fields.reads lawful.0.fields.writes
  unit-well bank (SlotMissing i) at lawful =
      transfer-well class gives bank at (fault_code fetch_fault (next_address at) (next_address at)) refl i lawful.fields.reads
      lawful.fields.writes
  unit-well bank (SlotIsBranch i word) at lawful =
      transfer-well class gives bank at (fault_code branch_in_slot_fault (next_address at) word) refl i lawful.0.fields.reads
      lawful.0.fields.writes
  unit-well bank Call at lawful = call class gives bank
  unit-well bank (Trap kind value) at lawful = refl

  pub units-well : (bank : ℕ) (units : List Unit) (at : ℕ) → All IsLawful units → Named (units_code bank units at)
  units-well bank [] at all = refl
  units-well bank (unit ∷ units) at all =
      joined (unit_code bank unit at) (units_code bank units (at + 4)) (unit-well bank unit at (All-head IsLawful unit units all))
      (units-well bank units (at + 4) (All-tail IsLawful unit units all))

  -- ---- pieces

  if-tested : (b : Bool) (code : List Step) → Named code → Named (if b then code else [])
  if-tested true code h = h
  if-tested false code h = refl

  from-on : (test : ℕ → Bool) (code : ℕ → List Step) → ((r : ℕ) → r < 32 → Named (code r)) → (r n : ℕ) → r + n ≤ 32
      → Named (flat_map (λ r. if test r then code r else []) (range_with_len r n))
  from-on test code each r zero within = refl
  from-on test code each r (suc n) within =
      joined (if test r then code r else []) (flat_map (λ r. if test r then code r else []) (range_with_len (r + 1) n))
      (if-tested (test r) (code r) (each r (omega (arith, within)))) (from-on test code each (r + 1) n (omega (arith, within)))

  fetched-well : (r : ℕ) → r < 32 → Named (fetched r)
  fetched-well r h = rw (field-is r h) refl

  put-back-well : (r : ℕ) → r < 32 → Named (put_back r)
  put-back-well r h = rw (field-is r h) refl

  pub warm-well : (units : List Unit) (at : ℕ) → All IsLawful units → Named (warm_code units at)
  warm-well units at all =
      let fetches = for_registers (is_needed units) fetched in
      let body = units_code (bank_of units) units at in
      joined (fetches ++ body) (for_registers (is_written units) put_back)
      (joined fetches body (from-on (is_needed units) fetched fetched-well 1 31 (omega arith)) (units-well (bank_of units) units at all))
      (from-on (is_written units) put_back put-back-well 1 31 (omega arith))
