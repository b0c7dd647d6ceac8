-- The code of units goes to no offset, and their exits go to words of the span.
use Rattle.std.proofs.Common.{ℕ, ◌+◌, ◌≤◌, Bool, true, false, if◌then◌else◌, List, [], ◌∷◌, ◌++◌, ap, arith}
use Rattle.std.specs.List.{flat_map, range_with_len}
use Rattle.delay_slots.specs.declared.unit.Unit.{Unit}
use Rattle.emit_steps.specs.declared.step.Step.{Step}
use Rattle.emit_instructions.specs.Units.{unit_code}
use Rattle.emit_instructions.proofs.Forms.{form-weighs, form-free}
use Rattle.emit_instructions.proofs.UnitForms.{unit_form, unit-weighs}
use Rattle.word_emitter.specs.Pieces.{is_needed, is_written, bank_of, units_code, fetched, put_back, for_registers, warm_code}
use Rattle.meter.specs.Guards.{guard_code}
use Rattle.meter.proofs.GuardForms.{guard_form, guard-is}
use Rattle.emit_spans.specs.Parts.{front_of}
use Rattle.emit_spans.proofs.StepMarks.{marks, marks-append, goes_to_offsets}

pub unit-marks : (bank : ℕ) (unit : Unit) (at : ℕ) → marks (unit_code bank unit at) ≤ 0
unit-marks bank unit at =
    omega (arith, unit-weighs goes_to_offsets bank unit at, form-free goes_to_offsets (λ p. omega arith) (unit_form unit at))

guard-marks : (unit : Unit) (at : ℕ) → marks (guard_code unit at) ≤ 0
guard-marks unit at =
    omega (
      arith,
      ap marks (guard-is unit at),
      form-weighs goes_to_offsets 0 (guard_form unit at),
      form-free goes_to_offsets (λ p. omega arith) (guard_form unit at),
    )

pub front-marks : (metered : Bool) (unit : Unit) (at : ℕ) → marks (front_of metered unit at) ≤ 0
front-marks true unit at = guard-marks unit at
front-marks false unit at = omega arith

-- ---- warm code

units-marks : (bank : ℕ) (units : List Unit) (at : ℕ) → marks (units_code bank units at) ≤ 0
units-marks bank [] at = omega arith
units-marks bank (unit ∷ units) at =
    omega (
      arith,
      marks-append (unit_code bank unit at) (units_code bank units (at + 4)),
      unit-marks bank unit at,
      units-marks bank units
          (at + 4),
    )

some-marks : (b : Bool) (code : List Step) → marks code ≤ 0 → marks (if b then code else []) ≤ 0
some-marks true code none = none
some-marks false code none = omega arith

each-marks : (test : ℕ → Bool) (code : ℕ → List Step) → ((r : ℕ) → marks (code r) ≤ 0) → (rs : List ℕ)
    → marks (flat_map (λ r. if test r then code r else []) rs) ≤ 0
each-marks test code none [] = omega arith
each-marks test code none (r ∷ rs) =
    let here = if test r then code r else [] in
    let others = flat_map (λ r. if test r then code r else []) rs in
    omega (arith, marks-append here others, some-marks (test r) (code r) (none r), each-marks test code none rs)

pub warm-marks : (units : List Unit) (at : ℕ) → marks (warm_code units at) ≤ 0
warm-marks units at =
    let fetches = for_registers (is_needed units) fetched in
    let body = units_code (bank_of units) units at in
    let put_backs = for_registers (is_written units) put_back in
    let a : marks fetches ≤ 0 = each-marks (is_needed units) fetched (λ r. omega arith) (range_with_len 1 31) in
    let b : marks put_backs ≤ 0 = each-marks (is_written units) put_back (λ r. omega arith) (range_with_len 1 31) in
    omega (arith, a, b, units-marks (bank_of units) units at, marks-append (fetches ++ body) put_backs, marks-append fetches body)
