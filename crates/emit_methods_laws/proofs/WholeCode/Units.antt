-- The code of units and of pieces has operations.
use Rattle.std.proofs.Common.{ℕ, zero, suc, ◌+◌, ◌<◌, ◌≤◌, Bool, true, false, if◌then◌else◌, List, [], ◌∷◌, ◌++◌, All, length, refl, arith}
use Rattle.std.specs.List.{flat_map, range_with_len}
use Rattle.std.proofs.lemmas.Bool.{and_from}
use Rattle.std.proofs.lemmas.List.Elements.{All-head, All-tail}
use Rattle.delay_slots.specs.declared.unit.Unit.{Unit}
use Rattle.jvm_definition.specs.declared.kind.Kind.TheVariants.{Int, Top}
use Rattle.jvm_definition.specs.declared.instruction.Instruction.TheVariants as instructions
use Rattle.emit_steps.specs.declared.step.Step.{Step}
use Rattle.emit_layout.specs.FieldNumbers.{register_field}
use Rattle.emit_instructions.specs.Units.{unit_code}
use Rattle.word_emitter.specs.Pieces.{is_needed, is_written, bank_of, units_code, fetched, put_back, for_registers, warm_code}
use Rattle.meter.specs.Guards.{guard_code}
use Rattle.meter.proofs.GuardSizes.{guard-bytes}
use Rattle.emit_simulation_laws.specs.Lawful.{IsLawful}
use Rattle.emit_simulation_laws.specs.UnitLaws.{NeededIsKnown}
use Rattle.emit_assembly.specs.declared.references.References.{References}
use Rattle.emit_assembly.specs.Assembling.{has_operation}
use Rattle.emit_types_laws.specs.Judging.{Rules}
use Rattle.emit_types_laws.specs.Laws.{GuardsAreTyped, UnitsAreTyped}
use Rattle.emit_types_laws.specs.Methods.{owes_nothing}
use Rattle.emit_limits.specs.Laws.{UnitsKeepToTheirBytes}
use Rattle.emit_methods_laws.specs.Naming.{UnitsNameWell, is_helper}
use Rattle.emit_methods_laws.specs.Whole.{HasHelpers}
use Rattle.emit_methods_laws.proofs.NamedCode.Steps.{field-is}
use Rattle.emit_methods_laws.proofs.NamedCode.Guards.{guard-well}
use Rattle.emit_methods_laws.proofs.WholeCode.Operations.{Operates, named, no-switches, operations, operates-append}
use Rattle.emit_methods_laws.proofs.WholeCode.Programs.{of_helpers, helper-types}
use Rattle.emit_methods_laws.proofs.WholeCode.Helpers.{helpers-called}
use Rattle.emit_methods_laws.proofs.WholeCode.Sizes.{unit-small}

-- what is known of the code of units
pub record UnitLaws : Type 0 where
  pub typed : UnitsAreTyped
  pub known : NeededIsKnown
  pub well : UnitsNameWell
  pub small : UnitsKeepToTheirBytes
  pub guards : GuardsAreTyped

module _ (r : References) (has : HasHelpers r) (laws : UnitLaws) where
  pub unit-operates : (bank : ℕ) (unit : Unit) (at : ℕ) → IsLawful unit → Operates r (unit_code bank unit at)
  unit-operates bank unit at lawful =
      let rules : Rules = record { program = of_helpers; owes = owes_nothing; more = 2 } in
      let t = laws.typed unit rules bank (λ r. true) Top at (omega arith) helper-types lawful
      (laws.known unit (λ d. true) lawful (λ d positive below is. refl)) in
      let small = laws.small bank unit at in
      operations r 38 has.fields is_helper (helpers-called r has) 0 false rules (unit_code bank unit at) t.frames _ t.types (omega arith)
      (omega (arith, small, unit-small unit)) (no-switches of_helpers (unit_code bank unit at) t.frames _ t.types) (laws.well 0 false bank at unit lawful)

  -- a guard names the field of the meter too
  pub guard-operates : 39 ≤ length r.fields → (unit : Unit) (at : ℕ) → IsLawful unit → Operates r (guard_code unit at)
  guard-operates more unit at lawful =
      let rules : Rules = record { program = of_helpers; owes = owes_nothing; more = 2 } in
      let t = laws.guards unit rules at in
      let small = guard-bytes unit at in
      operations r 39 more is_helper (helpers-called r has) 0 false rules (guard_code unit at) t.frames _ t.types (omega arith)
      (omega (arith, small)) (no-switches of_helpers (guard_code unit at) t.frames _ t.types) (guard-well 0 false unit at lawful)

  units-operate : (bank : ℕ) (units : List Unit) (at : ℕ) → All IsLawful units → Operates r (units_code bank units at)
  units-operate bank [] at all = refl
  units-operate bank (unit ∷ units) at all =
      operates-append r (unit_code bank unit at) (units_code bank units (at + 4)) (unit-operates bank unit at (All-head IsLawful unit units all))
      (units-operate bank units (at + 4) (All-tail IsLawful unit units all))

  -- ---- registers

  if-tested : (b : Bool) (code : List Step) → Operates r code → Operates r (if b then code else [])
  if-tested true code h = h
  if-tested false code h = refl

  from-on : (test : ℕ → Bool) (code : ℕ → List Step) → ((d : ℕ) → d < 32 → Operates r (code d)) → (d n : ℕ) → d + n ≤ 32
      → Operates r (flat_map (λ d. if test d then code d else []) (range_with_len d n))
  from-on test code each d zero within = refl
  from-on test code each d (suc n) within =
      operates-append r (if test d then code d else []) (flat_map (λ d. if test d then code d else []) (range_with_len (d + 1) n))
      (if-tested (test d) (code d) (each d (omega (arith, within)))) (from-on test code each (d + 1) n (omega (arith, within)))

  fetch-operates : (d : ℕ) → d < 32 → Operates r (fetched d)
  fetch-operates d h =
      let get = instructions.Get (register_field d) Int in
      and_from (has_operation r get) true (named r 38 has.fields is_helper (helpers-called r has) 0 false get refl (field-is d h)) refl

  put-back-operates : (d : ℕ) → d < 32 → Operates r (put_back d)
  put-back-operates d h =
      let put = instructions.Put (register_field d) Int in
      and_from (has_operation r put) true (named r 38 has.fields is_helper (helpers-called r has) 0 false put refl (field-is d h)) refl

  -- ---- pieces

  pub warm-operates : (units : List Unit) (at : ℕ) → All IsLawful units → Operates r (warm_code units at)
  warm-operates units at all =
      let fetches = for_registers (is_needed units) fetched in
      let puts = for_registers (is_written units) put_back in
      let body = units_code (bank_of units) units at in
      operates-append r (fetches ++ body) puts
      (operates-append r fetches body (from-on (is_needed units) fetched fetch-operates 1 31 (omega arith))
      (units-operate (bank_of units) units at all))
      (from-on (is_written units) put_back put-back-operates 1 31 (omega arith))
