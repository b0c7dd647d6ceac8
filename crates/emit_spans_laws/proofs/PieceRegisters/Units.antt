-- Units over the bank of their piece leave the fields of all registers alone: they use none that is not kept in a local variable.
use Rattle.std.proofs.Common.{◌≡◌, ℕ, ◌+◌, ◌%◌, ◌^◌, ◌≤◌, ◌==◌, true, if◌then◌else◌, List, [], ◌∷◌, ◌++◌, refl, ap, ◌∙◌, arith}
use Rattle.std.specs.Prelude.{bit_or, fold, nat_lt}
use Rattle.std.specs.Int.{bit_at}
use Rattle.std.specs.List.{flat_map}
use Rattle.std.proofs.lemmas.Bool.{and_from, eq-eqb, lt-ltb, ne_eqb}
use Rattle.std.proofs.lemmas.Nat.Bits.{bit_at-lt, bit_at_or, bit_at-pow_same}
use Rattle.std.proofs.Math.Nat.{mod-eq_of_lt}
use Rattle.mips_definition.specs.Effect.{fetch_fault, branch_in_slot_fault}
use Rattle.delay_slots.specs.declared.unit.Unit.{Unit as Word}
use Rattle.delay_slots.specs.declared.unit.Unit.TheVariants as units
use Rattle.block_builder.specs.Registers.{Register, general, special, read_by, register_bit, register_set, unit_reads, unit_writes, written_by}
use Rattle.emit_instructions.specs.Access.{keeps}
use Rattle.emit_instructions.specs.Faulting.{fault_code}
use Rattle.emit_instructions.specs.Units.{instruction_code, next_address, unit_code}
use Rattle.word_emitter.specs.Pieces.{bank_of, units_code}
use Rattle.emit_spans_laws.proofs.PieceRegisters.Touching.{AreSpared, Quiet, quiet-both}
use Rattle.emit_spans_laws.proofs.PieceRegisters.Instructions.{call, instruction-quiet}
use Rattle.emit_spans_laws.proofs.PieceRegisters.Transfers.{transfer-quiet}

-- ---- lists one after the other

spared-parts : (q bank : ℕ) (first second : List Register) → AreSpared q bank (first ++ second)
    → AreSpared q bank first × AreSpared q bank second
spared-parts q bank [] second spared = (tt, spared)
spared-parts q bank (general r ∷ first) second spared =
    let rest = spared-parts q bank first second spared.1 in
    ((spared.0, rest.0), rest.1)
spared-parts q bank (special name ∷ first) second spared = spared-parts q bank first second spared

-- ---- the registers of a set with whose bit q is kept

abbrev set_from : ℕ → List Register → ℕ
set_from n registers = fold (λ sofar r. bit_or sofar (register_bit r)) n registers

module _ (q : ℕ) (low : 1 ≤ q) (high : q ≤ 31) where
  own-bit : (r : ℕ) → r ≡ q → bit_at (register_bit (general r)) q ≡ 1
  own-bit r same =
      let number : r % 32 ≡ q = mod-eq_of_lt (omega (arith, same)) ∙ same in
      ap (λ n. bit_at (if n == 0 then 0 else 2 ^ n) q) number ∙ rw (ne_eqb q 0 (λ none. omega (arith, none))) (bit_at-pow_same q)

  more-bits : (n m : ℕ) → bit_at n q ≡ 1 → bit_at (bit_or n m) q ≡ 1
  more-bits n m one = let either = bit_at_or n m q in let few = bit_at-lt m q in omega (arith, one, either, few)

  other-bits : (n m : ℕ) → bit_at m q ≡ 1 → bit_at (bit_or n m) q ≡ 1
  other-bits n m one = let either = bit_at_or n m q in let few = bit_at-lt n q in omega (arith, one, either, few)

  bit-stays : (n : ℕ) (registers : List Register) → bit_at n q ≡ 1 → bit_at (set_from n registers) q ≡ 1
  bit-stays n [] one = one
  bit-stays n (r ∷ registers) one = bit-stays (bit_or n (register_bit r)) registers (more-bits n (register_bit r) one)

  all-spared : (bank n : ℕ) (registers : List Register) → (bit_at (set_from n registers) q ≡ 1 → keeps bank q ≡ true)
      → AreSpared q bank registers
  all-spared bank n [] is_kept = tt
  all-spared bank n (general r ∷ registers) is_kept =
      let bits = register_bit (general r) in
      (λ same. is_kept (bit-stays (bit_or n bits) registers (other-bits n bits (own-bit r same))), all-spared bank (bit_or n bits) registers is_kept)
  all-spared bank n (special name ∷ registers) is_kept = all-spared bank (bit_or n (register_bit (special name))) registers is_kept

  bit-kept : (bank : ℕ) → bit_at bank q ≡ 1 → keeps bank q ≡ true
  bit-kept bank one = and_from (nat_lt q 32) (bit_at bank q == 1) (lt-ltb q 32 (omega arith)) (eq-eqb (bit_at bank q) 1 one)

  reads-spared : (piece : List Word) → AreSpared q (bank_of piece) (flat_map unit_reads piece)
  reads-spared piece =
      let reads : ℕ = register_set (flat_map unit_reads piece) in
      let writes : ℕ = register_set (flat_map unit_writes piece) in
      all-spared (bank_of piece) 0 (flat_map unit_reads piece) (λ one. bit-kept (bank_of piece) (more-bits reads writes one))

  writes-spared : (piece : List Word) → AreSpared q (bank_of piece) (flat_map unit_writes piece)
  writes-spared piece =
      let reads : ℕ = register_set (flat_map unit_reads piece) in
      let writes : ℕ = register_set (flat_map unit_writes piece) in
      all-spared (bank_of piece) 0 (flat_map unit_writes piece) (λ one. bit-kept (bank_of piece) (other-bits reads writes one))

  -- ---- units

  unit-quiet : (bank : ℕ) (unit : Word) (at : ℕ) → AreSpared q bank (unit_reads unit) → AreSpared q bank (unit_writes unit)
      → Quiet q (unit_code bank unit at)
  unit-quiet bank (units.Plain i) at reads writes = instruction-quiet q low high bank i at reads writes
  unit-quiet bank (units.Branch i slot) at reads writes =
      let read = spared-parts q bank (read_by i) (read_by slot) reads in
      let written = spared-parts q bank (written_by i) (written_by slot) writes in
      transfer-quiet q low high bank at (instruction_code bank slot (next_address at))
      (instruction-quiet q low high bank slot (next_address at) read.1 written.1) i read.0 written.0
  unit-quiet bank (units.SlotMissing i) at reads writes =
      transfer-quiet q low high bank at (fault_code fetch_fault (next_address at) (next_address at)) refl i reads writes
  unit-quiet bank (units.SlotIsBranch i word) at reads writes =
      transfer-quiet q low high bank at (fault_code branch_in_slot_fault (next_address at) word) refl i reads writes
  unit-quiet bank units.Call at reads writes = call q low high bank reads writes
  unit-quiet bank (units.Trap kind value) at reads writes = refl

  units-quiet : (bank : ℕ) (piece : List Word) (at : ℕ) → AreSpared q bank (flat_map unit_reads piece)
      → AreSpared q bank (flat_map unit_writes piece) → Quiet q (units_code bank piece at)
  units-quiet bank [] at reads writes = refl
  units-quiet bank (unit ∷ piece) at reads writes =
      let read = spared-parts q bank (unit_reads unit) (flat_map unit_reads piece) reads in
      let written = spared-parts q bank (unit_writes unit) (flat_map unit_writes piece) writes in
      quiet-both q (unit_code bank unit at) (units_code bank piece (at + 4)) (unit-quiet bank unit at read.0 written.0)
      (units-quiet bank piece (at + 4) read.1 written.1)

  pub piece-quiet : (piece : List Word) (at : ℕ) → Quiet q (units_code (bank_of piece) piece at)
  piece-quiet piece at = units-quiet (bank_of piece) piece at (reads-spared piece) (writes-spared piece)
