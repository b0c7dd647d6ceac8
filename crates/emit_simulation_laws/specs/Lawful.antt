-- Units as words spell them, and which registers their code finds known.
use Rattle.std.specs.Prelude.{◌≡◌, ℕ, ◌<◌, ◌==◌, Bool, true, false, ⊤, List}
use Rattle.std.specs.List.{list_any}
use Rattle.run_definition.specs.Words.{IsWord}
use Rattle.mips_decode.specs.Encoding.{word_of}
use Rattle.mips_definition.specs.declared.inst.Inst.{Inst}
use Rattle.mips_definition.specs.declared.inst.Inst.TheVariants as instructions
use Rattle.delay_slots.specs.declared.unit.Unit.{Unit}
use Rattle.delay_slots.specs.declared.unit.Unit.TheVariants as units
use Rattle.delay_slots.specs.Units.{is_branch}
use Rattle.block_builder.specs.Registers.{Register, general, special, read_by, read_by_call, written_by}
use Rattle.word_emitter.specs.Pieces.{is_likely}
use Rattle.emit_simulation_laws.specs.Knowing.{AreKnown, HasFields, gained}

-- ---- instructions as words spell them

-- an instruction of the floating-point coprocessor
abbrev pub is_float_inst : Inst → Bool
is_float_inst (instructions.Float word) = true
is_float_inst _ = false

-- SYSCALL, BREAK and a reserved word have units of their own
abbrev pub has_own_unit : Inst → Bool
has_own_unit (instructions.Syscall code) = true
has_own_unit (instructions.Break code) = true
has_own_unit (instructions.Reserved word) = true
has_own_unit _ = false

-- the value with which BREAK or a reserved word faults
abbrev pub value_of : Inst → ℕ
value_of (instructions.Break code) = code
value_of (instructions.Reserved word) = word
value_of _ = 0

-- An instruction that can be done alone or in a delay slot: no branch or jump, and none of the floating-point coprocessor.
pub record IsInstruction (i : Inst) : Type 0 where
  pub fields : HasFields i
  pub word : IsWord (word_of i)
  pub value : IsWord (value_of i)
  pub is_none : is_branch i ≡ false
  pub no_float : is_float_inst i ≡ false

-- A branch or jump.
pub record IsTransfer (i : Inst) : Type 0 where
  pub fields : HasFields i
  pub word : IsWord (word_of i)
  pub is_one : is_branch i ≡ true

-- ---- units as words spell them

abbrev pub IsLawful : Unit → Type 0
IsLawful (units.Plain i) = IsInstruction i × (has_own_unit i ≡ false)
IsLawful (units.Branch i slot) = IsTransfer i × IsInstruction slot
IsLawful (units.SlotMissing i) = IsTransfer i
IsLawful (units.SlotIsBranch i word) = IsTransfer i × IsWord word
IsLawful units.Call = ⊤
IsLawful (units.Trap kind value) = IsWord value

-- ---- registers

-- a register is the general one of this number
abbrev pub is_general : ℕ → Register → Bool
is_general r (general d) = d == r
is_general r (special name) = false

abbrev pub has_register : List Register → ℕ → Bool
has_register registers r = list_any (is_general r) registers

-- nothing is gained by what a slot would write that is passed over
abbrev pub GainsNothing : Inst → (ℕ → Bool) → Type 0
GainsNothing slot known = (r : ℕ) → 0 < r → r < 32 → gained (written_by slot) known r ≡ true
    → known r ≡ true

-- The code of a branch with its slot finds known what the branch reads, what the slot reads once the link is written, and where a likely
-- branch passes its slot over, what the slot would have written.
pub record KnownByBranch (known : ℕ → Bool) (i delayed : Inst) : Type 0 where
  pub branch : AreKnown known (read_by i)
  pub slot : AreKnown (gained (written_by i) known) (read_by delayed)
  pub passed_over : is_likely i ≡ true → GainsNothing delayed (gained (written_by i) known)

-- the code of a unit finds known what it reads
abbrev pub KnownByUnit : (ℕ → Bool) → Unit → Type 0
KnownByUnit known (units.Plain i) = AreKnown known (read_by i)
KnownByUnit known (units.Branch i slot) = KnownByBranch known i slot
KnownByUnit known (units.SlotMissing i) = AreKnown known (read_by i)
KnownByUnit known (units.SlotIsBranch i word) = AreKnown known (read_by i)
KnownByUnit known units.Call = AreKnown known read_by_call
KnownByUnit known (units.Trap kind value) = ⊤

-- each register is known that a test tells
abbrev pub AreAllKnown : (ℕ → Bool) → (ℕ → Bool) → Type 0
AreAllKnown test known = (r : ℕ) → 0 < r → r < 32 → test r ≡ true → known r ≡ true
