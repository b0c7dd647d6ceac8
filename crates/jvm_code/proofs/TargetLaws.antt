-- Targets that are given by offsets are formats.
use Rattle.std.proofs.Common.{◌≡◌, ℕ, ◌-◌, ◌^◌, ◌<◌, ◌≤◌, Bool, true, false, cond, ltb, leb, Option, Some, None, refl, sym, arith}
use Rattle.std.specs.Int.{w16, w32}
use Rattle.std.proofs.lemmas.Bool.{ltb-true, leb-true, lt-ltb, le-ltb}
use Rattle.std.proofs.lemmas.Bool.Decides.{nat_tests}
use Rattle.class_definition.specs.Format.{number_format}
use Rattle.class_definition.specs.Spelling.{IsFormat}
use Rattle.class_format.proofs.FieldLaws.{wide16, wide32, number_law}
use Rattle.class_format.proofs.Combined.{mapped_law}
use Rattle.class_definition.specs.Targets.{cut_instruction, extended, target_from, offset_to, near_bits, near, wide}
use Rattle.std.proofs.lemmas.Option.{same_Some}

-- a choice that gave something
chosen : {A : Type 0} (b : Bool) (o : Option A) (y : A) → cond b o None ≡ Some y → (b ≡ true) × (o ≡ Some y)
chosen true o y e = (refl, e)
chosen false o y e = absurd cc

target_below : (at offset : ℕ) → ltb (target_from at offset) (2 ^ 32) ≡ true
target_below at offset = lt-ltb _ _ (omega arith)

offset_back : (at offset : ℕ) → at < 2 ^ 16 → offset < 2 ^ 32 → offset_to at (target_from at offset) ≡ offset
offset_back at offset low below = omega arith

target_back : (at target : ℕ) → at < 2 ^ 16 → target < 2 ^ 32 → target_from at (offset_to at target) ≡ target
target_back at target low below = omega arith

wide_made : (at : ℕ) → at < 2 ^ 16 → (target bits : ℕ) → cond (ltb target (2 ^ 32)) (Some (offset_to at target)) None ≡ Some bits → target_from at bits ≡ target
wide_made at low target bits e =
    let p = chosen (ltb target (2 ^ 32)) (Some (offset_to at target)) bits e in
    let q = same_Some _ _ p.1 in
    rw (← q) (target_back at target low (ltb-true _ _ p.0))

wide_back : (at : ℕ) → at < 2 ^ 16 → (bits : ℕ) → ltb bits (2 ^ 32) ≡ true → cond (ltb (target_from at bits) (2 ^ 32)) (Some (offset_to at (target_from at bits))) None ≡ Some bits
wide_back at low bits e = rw (target_below at bits, offset_back at bits low (ltb-true _ _ e)) refl

pub wide_law : (at : ℕ) → at < 2 ^ 16 → IsFormat (wide at)
wide_law at low =
    mapped_law (λ bits. target_from at bits) (λ target. cond (ltb target (2 ^ 32)) (Some (offset_to at target)) None) (number_format cut_instruction w32) (number_law cut_instruction w32 wide32)
    (record { back_of = wide_back at low; made_of = wide_made at low })

extended_below : (bits : ℕ) → bits < 2 ^ 16 → extended bits < 2 ^ 32
extended_below bits below = grind (arith, nat_tests)

near_of_extended : (bits : ℕ) → bits < 2 ^ 16 → near_bits (extended bits) ≡ Some bits
near_of_extended bits below = grind (arith, nat_tests)

near_front : (offset bits : ℕ) → offset < 2 ^ 15 → offset ≡ bits → extended bits ≡ offset
near_front offset bits small is =
    let below : bits < 2 ^ 15 = omega arith in
    rw (lt-ltb bits (2 ^ 15) below) (sym is)

near_behind : (offset bits : ℕ) → 2 ^ 32 - 2 ^ 15 ≤ offset → offset < 2 ^ 32 → offset - (2 ^ 32 - 2 ^ 16) ≡ bits → extended bits ≡ offset
near_behind offset bits great below is =
    let above : 2 ^ 15 ≤ bits = omega arith in
    rw (le-ltb bits (2 ^ 15) above) (omega arith)

extended_of_near : (offset bits : ℕ) → near_bits offset ≡ Some bits → offset < 2 ^ 32 → extended bits ≡ offset
extended_of_near offset bits e below =
    (elim (ltb offset (2 ^ 15)) as (λ b. ltb offset (2 ^ 15) ≡ b → cond b (Some offset) (cond (leb (2 ^ 32 - 2 ^ 15) offset) (Some (offset - (2 ^ 32 - 2 ^ 16))) None) ≡ Some bits → extended bits ≡ offset) [
      | true ↦ λ small is. near_front offset bits (ltb-true _ _ small) (same_Some _ _ is)
      | false ↦ λ great is. let p = chosen (leb (2 ^ 32 - 2 ^ 15) offset) (Some (offset - (2 ^ 32 - 2 ^ 16))) bits is in
          near_behind offset bits (leb-true _ _ p.0) below (same_Some _ _ p.1)
    ]) refl e

near_back : (at : ℕ) → at < 2 ^ 16 → (bits : ℕ) → ltb bits (2 ^ 16) ≡ true
    → cond (ltb (target_from at (extended bits)) (2 ^ 32)) (near_bits (offset_to at (target_from at (extended bits)))) None ≡ Some bits
near_back at low bits e =
    let lt = ltb-true _ _ e in
    rw (target_below at (extended bits), offset_back at (extended bits) low (extended_below bits lt)) (near_of_extended bits lt)

near_made : (at : ℕ) → at < 2 ^ 16 → (target bits : ℕ) → cond (ltb target (2 ^ 32)) (near_bits (offset_to at target)) None ≡ Some bits → target_from at (extended bits) ≡ target
near_made at low target bits e =
    let p = chosen (ltb target (2 ^ 32)) (near_bits (offset_to at target)) bits e in
    let q = extended_of_near (offset_to at target) bits p.1 (omega arith) in
    rw q (target_back at target low (ltb-true _ _ p.0))

pub near_law : (at : ℕ) → at < 2 ^ 16 → IsFormat (near at)
near_law at low =
    mapped_law (λ bits. target_from at (extended bits)) (λ target. cond (ltb target (2 ^ 32)) (near_bits (offset_to at target)) None) (number_format cut_instruction w16) (number_law cut_instruction w16 wide16)
    (record { back_of = near_back at low; made_of = near_made at low })
