-- The code of a piece keeps to the bytes of its units and of their registers.
use Rattle.std.proofs.Common.{◌≡◌, ℕ, ◌+◌, ◌*◌, ◌≤◌, ◌⊎◌, inl, inr, Bool, true, false, not, ◌&&◌, ◌||◌, if◌then◌else◌, List, [], ◌∷◌, ◌++◌, length, refl, length-append, arith}
use Rattle.std.specs.Prelude.{sum_by}
use Rattle.std.specs.List.{flat_map, range_with_len}
use Rattle.std.proofs.lemmas.Bool.{and_parts, or_cases, or_left, or_right}
use Rattle.std.proofs.lemmas.List.Sums.{sum_by-cons}
use Rattle.mips_definition.specs.declared.inst.Inst.{Inst}
use Rattle.delay_slots.specs.declared.unit.Unit.{Unit}
use Rattle.delay_slots.specs.declared.unit.Unit.TheVariants.{Plain, Branch, SlotMissing, SlotIsBranch, Call, Trap}
use Rattle.block_builder.specs.Registers.{read_by, written_by, unit_reads, unit_writes}
use Rattle.emit_steps.specs.declared.step.Step.{Step}
use Rattle.emit_steps.specs.Widths.{size}
use Rattle.emit_instructions.specs.Units.{unit_code}
use Rattle.word_emitter.specs.Pieces.{is_in, is_likely, needs, is_needed, is_written, bank_of, units_code, fetched, put_back, for_registers, warm_code}
use Rattle.emit_limits.specs.Weights.{unit_bytes, register_count, register_bytes}
use Rattle.emit_limits.proofs.StepSizes.{size-append, load-bytes, store-bytes}
use Rattle.emit_limits.proofs.UnitSizes.{unit-size}
use Rattle.emit_limits.proofs.WeightCounts.{one, count, count-implied, count-or, count-none, count-in}

-- ---- code for registers

fetched-size : (r : ℕ) → size (fetched r) ≤ 5
fetched-size r = omega (arith, store-bytes r)

put-back-size : (r : ℕ) → size (put_back r) ≤ 5
put-back-size r = omega (arith, load-bytes r)

some-size : (b : Bool) (code : List Step) → size code ≤ 5 → size (if b then code else []) ≤ 5 * one b
some-size true code h = omega (arith, h)
some-size false code h = omega arith

each-size : (test : ℕ → Bool) (code : ℕ → List Step) → ((r : ℕ) → size (code r) ≤ 5) → (rs : List ℕ) → size (flat_map (λ r. if test r then code r else []) rs) ≤ 5 * count test rs
each-size test code small [] = omega arith
each-size test code small (r ∷ rs) =
    let here = if test r then code r else [] in
    let others = flat_map (λ r. if test r then code r else []) rs in
    omega (arith, size-append here others, some-size (test r) (code r) (small r), each-size test code small rs)

-- ---- registers that are needed

abbrev registers : List ℕ
registers = range_with_len 1 31

abbrev needed_count : Unit → ℕ
needed_count (Branch i slot) = length (read_by i) + length (read_by slot) + length (written_by slot)
needed_count unit = length (unit_reads unit)

branch-needs : (i slot : Inst) (r : ℕ) → needs (Branch i slot) r ≡ true → ((is_in r (read_by i) || is_in r (read_by slot)) || is_in r (written_by slot)) ≡ true
branch-needs i slot r is =
    by (or_cases (is_in r (read_by i) || (not (is_in r (written_by i)) && is_in r (read_by slot))) (is_likely i && is_in r (written_by slot)) is)
  where
    first : (is_in r (read_by i) ≡ true) ⊎ ((not (is_in r (written_by i)) && is_in r (read_by slot)) ≡ true) → ((is_in r (read_by i) || is_in r (read_by slot)) || is_in r (written_by slot)) ≡ true
    first (inl reads) = or_left (is_in r (read_by i) || is_in r (read_by slot)) (is_in r (written_by slot)) (or_left (is_in r (read_by i)) (is_in r (read_by slot)) reads)
    first (inr both) =
        or_left (is_in r (read_by i) || is_in r (read_by slot)) (is_in r (written_by slot))
        (or_right (is_in r (read_by i)) (is_in r (read_by slot)) (and_parts (not (is_in r (written_by i))) (is_in r (read_by slot)) both).1)

    by : ((is_in r (read_by i) || (not (is_in r (written_by i)) && is_in r (read_by slot))) ≡ true) ⊎ ((is_likely i && is_in r (written_by slot)) ≡ true) → ((is_in r (read_by i) || is_in r (read_by slot)) || is_in r (written_by slot)) ≡ true
    by (inl reads) = first (or_cases (is_in r (read_by i)) (not (is_in r (written_by i)) && is_in r (read_by slot)) reads)
    by (inr writes) =
        or_right (is_in r (read_by i) || is_in r (read_by slot)) (is_in r (written_by slot)) (and_parts (is_likely i) (is_in r (written_by slot)) writes).1

needs-count : (unit : Unit) → count (needs unit) registers ≤ needed_count unit
needs-count (Branch i slot) =
    let a = λ (r : ℕ). is_in r (read_by i) in
    let b = λ (r : ℕ). is_in r (read_by slot) in
    let c = λ (r : ℕ). is_in r (written_by slot) in
    omega (arith, count-implied (needs (Branch i slot)) (λ r. (a r || b r) || c r) (branch-needs i slot) registers, count-or (λ r. a r || b r) c registers, count-or a b registers, count-in (read_by i), count-in (read_by slot), count-in (written_by slot))
needs-count (Plain i) = count-in (unit_reads (Plain i))
needs-count (SlotMissing i) = count-in (unit_reads (SlotMissing i))
needs-count (SlotIsBranch i word) = count-in (unit_reads (SlotIsBranch i word))
needs-count Call = count-in (unit_reads Call)
needs-count (Trap kind value) = count-in (unit_reads (Trap kind value))

needed-or : (unit : Unit) (units : List Unit) (r : ℕ) → is_needed (unit ∷ units) r ≡ true → (needs unit r || is_needed units r) ≡ true
needed-or unit units r is = by (or_cases (needs unit r) (not (is_in r (unit_writes unit)) && is_needed units r) is)
  where
    by : (needs unit r ≡ true) ⊎ ((not (is_in r (unit_writes unit)) && is_needed units r) ≡ true) → (needs unit r || is_needed units r) ≡ true
    by (inl here) = or_left (needs unit r) (is_needed units r) here
    by (inr later) = or_right (needs unit r) (is_needed units r) (and_parts (not (is_in r (unit_writes unit))) (is_needed units r) later).1

-- ---- sums over units

abbrev total : (Unit → ℕ) → List Unit → ℕ
total f [] = 0
total f (unit ∷ units) = f unit + total f units

needed-total : (units : List Unit) → count (is_needed units) registers ≤ total needed_count units
needed-total [] = omega (arith, count-none registers)
needed-total (unit ∷ units) =
    omega (arith, count-implied (is_needed (unit ∷ units)) (λ r. needs unit r || is_needed units r) (needed-or unit units) registers, count-or (needs unit) (is_needed units) registers, needs-count unit, needed-total units)

written-total : (units : List Unit) → count (is_written units) registers ≤ total (λ unit. length (unit_writes unit)) units
written-total [] = omega (arith, count-none registers)
written-total (unit ∷ units) =
    omega (arith, count-or (λ r. is_in r (unit_writes unit)) (is_written units) registers, count-in (unit_writes unit), written-total units)

register-total : (unit : Unit) → needed_count unit + length (unit_writes unit) ≤ register_count unit
register-total (Plain i) = omega arith
register-total (Branch i slot) = omega (arith, length-append (written_by i) (written_by slot))
register-total (SlotMissing i) = omega arith
register-total (SlotIsBranch i word) = omega arith
register-total Call = omega arith
register-total (Trap kind value) = omega arith

all-total : (units : List Unit) → total needed_count units + total (λ unit. length (unit_writes unit)) units ≤ total register_count units
all-total [] = omega arith
all-total (unit ∷ units) = omega (arith, register-total unit, all-total units)

units-total : (bank : ℕ) (units : List Unit) (at : ℕ) → size (units_code bank units at) ≤ total unit_bytes units
units-total bank [] at = omega arith
units-total bank (unit ∷ units) at =
    omega (arith, size-append (unit_code bank unit at) (units_code bank units (at + 4)), unit-size bank unit at, units-total bank units (at + 4))

sum-total : (units : List Unit) → sum_by (λ unit. unit_bytes unit + register_bytes unit) units ≡ total unit_bytes units + 5 * total register_count units
sum-total [] = refl
sum-total (unit ∷ units) =
    omega (arith, sum_by-cons (λ unit. unit_bytes unit + register_bytes unit) unit units, sum-total units)

pub warm-size : (units : List Unit) (at : ℕ) → size (warm_code units at) ≤ sum_by (λ unit. unit_bytes unit + register_bytes unit) units
warm-size units at =
    let fetches = for_registers (is_needed units) fetched in
    let body = units_code (bank_of units) units at in
    let put_backs = for_registers (is_written units) put_back in
    let a : size (fetches ++ body ++ put_backs) ≡ size (fetches ++ body) + size put_backs = size-append (fetches ++ body) put_backs in
    let b : size (fetches ++ body) ≡ size fetches + size body = size-append fetches body in
    let c : size fetches ≤ 5 * count (is_needed units) registers = each-size (is_needed units) fetched fetched-size registers in
    let d : size put_backs ≤ 5 * count (is_written units) registers = each-size (is_written units) put_back put-back-size registers in
    omega (arith, a, b, c, d, units-total (bank_of units) units at, needed-total units, written-total units, all-total units, sum-total units)
