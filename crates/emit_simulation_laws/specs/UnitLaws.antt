-- What holds of units because words spell them, and of what their code finds known.
use Rattle.std.specs.Prelude.{◌≡◌, ℕ, ◌<◌, Bool, true, ◌||◌, List, ◌∷◌, ◌++◌, All, Some, slice_get}
use Rattle.run_definition.specs.Words.{IsWord}
use Rattle.mips_definition.specs.declared.inst.Inst.{Inst}
use Rattle.delay_slots.specs.declared.unit.Unit.{Unit}
use Rattle.delay_slots.specs.declared.unit.Unit.TheVariants.{Branch}
use Rattle.delay_slots.specs.Places.{WordIndex}
use Rattle.delay_slots.specs.Units.{HasNoFloat, units_of}
use Rattle.block_builder.specs.Registers.{Register, unit_reads, unit_writes, written_by}
use Rattle.word_emitter.specs.Pieces.{is_in, is_likely, is_needed, needs}
use Rattle.emit_simulation_laws.specs.Knowing.{AreNumbers, gained}
use Rattle.emit_simulation_laws.specs.Lawful.{AreAllKnown, IsLawful, KnownByUnit, has_register}

-- ---- units

-- the units of words that have none of the floating-point coprocessor among them are lawful
abbrev pub UnitsAreLawful : Type 0
UnitsAreLawful =
    (words : List ℕ) → All IsWord words → HasNoFloat words → All IsLawful (units_of words)

-- so is each of them
abbrev pub EachUnitIsLawful : Type 0
EachUnitIsLawful =
    (words : List ℕ) (k : WordIndex) (unit : Unit)
    → All IsWord words
    → HasNoFloat words
    → slice_get (units_of words) k ≡ Some unit
    → IsLawful unit

-- the registers that a lawful unit reads are numbers of five bits
abbrev pub UnitsReadNumbers : Type 0
UnitsReadNumbers = (unit : Unit) → IsLawful unit → AreNumbers (unit_reads unit)

-- so are those that it writes
abbrev pub UnitsWriteNumbers : Type 0
UnitsWriteNumbers = (unit : Unit) → IsLawful unit → AreNumbers (unit_writes unit)

-- ---- sets of registers

-- the set of registers of five bits has the bits of those that are listed
abbrev pub SetsHaveWhatIsListed : Type 0
SetsHaveWhatIsListed =
    (registers : List Register) (r : ℕ)
    → AreNumbers registers
    → 0 < r
    → r < 32
    → is_in r registers ≡ has_register registers r

-- where registers are gained, those are known that are listed or were known before
abbrev pub ListedAreGained : Type 0
ListedAreGained =
    (registers : List Register) (known : ℕ → Bool) (r : ℕ)
    → gained registers known r ≡ (has_register registers r || known r)

-- registers are gained with others as they are one after the other
abbrev pub GainsFollowEachOther : Type 0
GainsFollowEachOther =
    (first second : List Register) (known : ℕ → Bool)
    → gained (first ++ second) known ≡ gained second (gained first known)

-- ---- what code needs

-- where the registers are known that a unit's code needs, each is known when it is read
abbrev pub NeededIsKnown : Type 0
NeededIsKnown =
    (unit : Unit) (known : ℕ → Bool)
    → IsLawful unit
    → AreAllKnown (needs unit) known
    → KnownByUnit known unit

-- so are those that the slot of a likely branch writes
abbrev pub LikelySlotsAreKnown : Type 0
LikelySlotsAreKnown =
    (i slot : Inst) (known : ℕ → Bool)
    → IsLawful (Branch i slot)
    → AreAllKnown (needs (Branch i slot)) known
    → is_likely i ≡ true
    → AreAllKnown (has_register (written_by slot)) known

-- where those are known that the code of units needs, those are that the first needs
abbrev pub FirstFindsItsNeeds : Type 0
FirstFindsItsNeeds =
    (unit : Unit) (units : List Unit) (known : ℕ → Bool)
    → AreAllKnown (is_needed (unit ∷ units)) known
    → AreAllKnown (needs unit) known

-- and behind it those that the others need
abbrev pub OthersFindTheirNeeds : Type 0
OthersFindTheirNeeds =
    (unit : Unit) (units : List Unit) (known : ℕ → Bool)
    → IsLawful unit
    → AreAllKnown (is_needed (unit ∷ units)) known
    → AreAllKnown (is_needed units) (gained (unit_writes unit) known)
