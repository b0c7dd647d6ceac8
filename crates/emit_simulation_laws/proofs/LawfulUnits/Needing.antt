-- Registers that code needs, and those that it finds known.
use Rattle.std.proofs.Common.{◌≡◌, ℕ, ◌<◌, ◌==◌, ◌||◌, ◌&&◌, ◌⊎◌, Bool, true, false, not, List, [], ◌∷◌, refl, sym, ap, ◌∙◌, inl, inr, arith}
use Rattle.std.proofs.lemmas.Bool.{and_from, cases_Bool, cases_eq, eq-eqb, not_from_false, or_left, or_right}
use Rattle.mips_definition.specs.declared.inst.Inst.{Inst}
use Rattle.delay_slots.specs.declared.unit.Unit.{Unit}
use Rattle.delay_slots.specs.declared.unit.Unit.TheVariants as units
use Rattle.block_builder.specs.Registers.{Register, general, special, read_by, read_by_call, written_by, unit_writes}
use Rattle.word_emitter.specs.Pieces.{is_in, is_likely, is_needed, needs}
use Rattle.emit_simulation_laws.specs.Knowing.{AreKnown, AreNumbers, gained}
use Rattle.emit_simulation_laws.specs.Lawful.{AreAllKnown, GainsNothing, IsLawful, KnownByBranch, KnownByUnit, has_register}
use Rattle.emit_simulation_laws.proofs.LawfulUnits.Units.{reads_are_numbers, writes_are_numbers}
use Rattle.emit_simulation_laws.proofs.LawfulUnits.Sets.{is_in-has, gained-has}

-- what a set has is known, so the registers of the list are
are_known : (registers : List Register) (known : ℕ → Bool) → AreNumbers registers → AreAllKnown (has_register registers) known
    → AreKnown known registers
are_known [] known numbers all = tt
are_known (general d ∷ registers) known numbers all = (
  by_number (cases_eq d 0),
  are_known registers known numbers.1 (λ r positive below has. all r positive below (or_right (d == r) (has_register registers r) has)),
)
  where
    by_number : (d ≡ 0) ⊎ (d ≡ 0 → ⊥) → (d ≡ 0) ⊎ ((d < 32) × (known d ≡ true))
    by_number (inl nothing) = inl nothing
    by_number (inr some) = inr (numbers.0, all d (omega arith) numbers.0 (or_left (d == d) (has_register registers d) (eq-eqb d d refl)))
are_known (special name ∷ registers) known numbers all = are_known registers known numbers all

all_known : (registers : List Register) (known : ℕ → Bool) → AreNumbers registers → AreAllKnown (λ r. is_in r registers) known
    → AreAllKnown (has_register registers) known
all_known registers known numbers all r positive below has = all r positive below (is_in-has registers r numbers positive below ∙ has)

reads_known : (registers : List Register) (known : ℕ → Bool) → AreNumbers registers → AreAllKnown (λ r. is_in r registers) known
    → AreKnown known registers
reads_known registers known numbers all = are_known registers known numbers (all_known registers known numbers all)

-- ---- a branch with its slot

in_first : (a b c : Bool) → a ≡ true → (a || b || c) ≡ true
in_first a b c e = rw e refl

in_second : (a b c : Bool) → b ≡ true → (a || b || c) ≡ true
in_second true b c e = refl
in_second false b c e = rw e refl

in_third : (a b c : Bool) → c ≡ true → (a || b || c) ≡ true
in_third true b c e = refl
in_third false true c e = refl
in_third false false c e = e

-- a register is needed for one of three reasons
abbrev reads : Inst → ℕ → Bool
reads i r = is_in r (read_by i)

abbrev reads_later : Inst → Inst → ℕ → Bool
reads_later i slot r = not (is_in r (written_by i)) && is_in r (read_by slot)

abbrev writes_perhaps : Inst → Inst → ℕ → Bool
writes_perhaps i slot r = is_likely i && is_in r (written_by slot)

read_first : (i slot : Inst) (known : ℕ → Bool) → AreAllKnown (needs (units.Branch i slot)) known → AreAllKnown (λ r. is_in r (read_by i)) known
read_first i slot known all r positive below is = all r positive below (in_first (reads i r) (reads_later i slot r) (writes_perhaps i slot r) is)

read_later : (i slot : Inst) (known : ℕ → Bool) → AreNumbers (written_by i) → AreAllKnown (needs (units.Branch i slot)) known
    → AreAllKnown (λ r. is_in r (read_by slot)) (gained (written_by i) known)
read_later i slot known numbers all r positive below is =
    gained-has (written_by i) known r
    ∙ elim (cases_Bool (is_in r (written_by i))) [
      | inl written ↦ or_left _ _ (sym (is_in-has (written_by i) r numbers positive below) ∙ written)
      | inr kept ↦
          or_right _ _
          (all r positive below (in_second (reads i r) (reads_later i slot r) (writes_perhaps i slot r) (and_from _ _ (not_from_false _ kept) is)))
    ]

pub written_where_likely : (i slot : Inst) (known : ℕ → Bool) → IsLawful (units.Branch i slot) → AreAllKnown (needs (units.Branch i slot)) known
    → is_likely i ≡ true → AreAllKnown (has_register (written_by slot)) known
written_where_likely i slot known lawful all likely =
    all_known (written_by slot) known lawful.1.fields.writes
    (λ r positive below is. all r positive below (in_third (reads i r) (reads_later i slot r) (writes_perhaps i slot r) (and_from _ _ likely is)))

gains_nothing : (i slot : Inst) (known : ℕ → Bool) → AreAllKnown (has_register (written_by slot)) known
    → GainsNothing slot (gained (written_by i) known)
gains_nothing i slot known all r positive below gains =
    elim (cases_Bool (has_register (written_by slot) r)) [
      | inl has ↦ gained-has (written_by i) known r ∙ or_right _ _ (all r positive below has)
      | inr none ↦
          sym (ap (λ b. b || gained (written_by i) known r) none) ∙ sym (gained-has (written_by slot) (gained (written_by i) known) r) ∙ gains
    ]

branch_known : (i slot : Inst) (known : ℕ → Bool) → IsLawful (units.Branch i slot) → AreAllKnown (needs (units.Branch i slot)) known
    → KnownByBranch known i slot
branch_known i slot known lawful all = record {
  branch = reads_known (read_by i) known lawful.0.fields.reads (read_first i slot known all);
  slot = reads_known (read_by slot) (gained (written_by i) known) lawful.1.fields.reads (read_later i slot known lawful.0.fields.writes all);
  passed_over = λ likely. gains_nothing i slot known (written_where_likely i slot known lawful all likely);
}

-- ---- units

pub unit_known : (unit : Unit) (known : ℕ → Bool) → IsLawful unit → AreAllKnown (needs unit) known → KnownByUnit known unit
unit_known (units.Plain i) known lawful all = reads_known (read_by i) known lawful.0.fields.reads all
unit_known (units.Branch i slot) known lawful all = branch_known i slot known lawful all
unit_known (units.SlotMissing i) known lawful all = reads_known (read_by i) known lawful.fields.reads all
unit_known (units.SlotIsBranch i word) known lawful all = reads_known (read_by i) known lawful.0.fields.reads all
unit_known units.Call known lawful all = reads_known read_by_call known (reads_are_numbers units.Call tt) all
unit_known (units.Trap kind value) known lawful all = tt

pub first_known : (unit : Unit) (rest : List Unit) (known : ℕ → Bool) → AreAllKnown (is_needed (unit ∷ rest)) known → AreAllKnown (needs unit) known
first_known unit rest known all r positive below is = all r positive below (or_left _ _ is)

pub others_known : (unit : Unit) (rest : List Unit) (known : ℕ → Bool) → IsLawful unit → AreAllKnown (is_needed (unit ∷ rest)) known
    → AreAllKnown (is_needed rest) (gained (unit_writes unit) known)
others_known unit rest known lawful all r positive below is =
    gained-has (unit_writes unit) known r
    ∙ elim (cases_Bool (is_in r (unit_writes unit))) [
      | inl written ↦ or_left _ _ (sym (is_in-has (unit_writes unit) r (writes_are_numbers unit lawful) positive below) ∙ written)
      | inr kept ↦ or_right _ _ (all r positive below (or_right (needs unit r) _ (and_from _ _ (not_from_false _ kept) is)))
    ]
