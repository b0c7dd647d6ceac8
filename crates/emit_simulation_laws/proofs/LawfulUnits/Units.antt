-- The units of words, by the instruction of a word and the words behind it.
use Rattle.std.proofs.Common.{◌≡◌, ℕ, zero, suc, Bool, true, false, if◌then◌else◌, List, [], ◌∷◌, ◌++◌, Some, refl, sym, subst, lit<}
use Rattle.std.specs.Prelude.{⊤, All, slice_get}
use Rattle.std.proofs.lemmas.Bool.{not-true, and_parts}
use Rattle.std.proofs.lemmas.List.Elements.{All-nil, All-cons, All-head, All-tail}
use Rattle.run_definition.specs.Words.{IsWord}
use Rattle.mips_definition.specs.Table.{inst, is_float}
use Rattle.mips_decode.specs.Encoding.{word_of}
use Rattle.mips_definition.specs.declared.inst.Inst.{Inst}
use Rattle.mips_definition.specs.declared.inst.Inst.TheVariants as instructions
use Rattle.delay_slots.specs.declared.unit.Unit.{Unit}
use Rattle.delay_slots.specs.declared.unit.Unit.TheVariants as units
use Rattle.delay_slots.specs.Units.{HasNoFloat, branch_unit, is_branch, unit_of, units_of}
use Rattle.block_builder.specs.Registers.{Register, general, special, read_by, unit_reads, unit_writes, written_by}
use Rattle.emit_simulation_laws.specs.Knowing.{AreNumbers, HasFields}
use Rattle.emit_simulation_laws.specs.Lawful.{IsInstruction, IsLawful, IsTransfer, is_float_inst, value_of}
use Rattle.emit_simulation_laws.proofs.LawfulUnits.Spelling.{word_is_spelled}

-- ---- words

-- the words of instructions are theirs
abbrev pub InvertsDecoding : Type 0
InvertsDecoding = (w : ℕ) → IsWord w → word_of (inst w) ≡ w

-- an instruction of a word that is none of the floating-point coprocessor
record IsGiven (i : Inst) : Type 0 where
  fields : HasFields i
  word : IsWord (word_of i)
  value : IsWord (value_of i)
  no_float : is_float_inst i ≡ false

record IsGoodWord (w : ℕ) : Type 0 where
  is_word : IsWord w
  given : IsGiven (inst w)

good_word : InvertsDecoding → (w : ℕ) → IsWord w → is_float w ≡ false → IsGoodWord w
good_word inverts w word no_float =
    let spelled = word_is_spelled w word in
    record {
      is_word = word;
      given = record {
        fields = spelled.fields;
        word = subst IsWord (sym (inverts w word)) word;
        value = spelled.value;
        no_float = spelled.no_float no_float;
      };
    }

abbrev AreGood : List ℕ → Type 0
AreGood [] = ⊤
AreGood (w ∷ words) = IsGoodWord w × AreGood words

words_are_good : InvertsDecoding → (words : List ℕ) → All IsWord words → HasNoFloat words → AreGood words
words_are_good inverts [] are none = tt
words_are_good inverts (w ∷ words) are none =
    let parts = and_parts _ _ none in (
      good_word inverts w (All-head IsWord w words are) (not-true (is_float w) parts.0),
      words_are_good inverts words (All-tail IsWord w words are) parts.1,
    )

-- ---- units

instruction : (i : Inst) → IsGiven i → is_branch i ≡ false → IsInstruction i
instruction i given none =
    record { fields = given.fields; word = given.word; value = given.value; is_none = none; no_float = given.no_float }

transfer : (i : Inst) → IsGiven i → is_branch i ≡ true → IsTransfer i
transfer i given one = record { fields = given.fields; word = given.word; is_one = one }

branch_is_lawful : (i : Inst) (words : List ℕ) → IsTransfer i → AreGood words → IsLawful (branch_unit i words)
branch_is_lawful i [] is good = is
branch_is_lawful i (w ∷ words) is good = by_test (is_branch (inst w)) refl
  where
    by_test : (b : Bool) → is_branch (inst w) ≡ b → IsLawful (if b then units.SlotIsBranch i w else units.Branch i (inst w))
    by_test true e = (is, good.0.is_word)
    by_test false e = (is, instruction (inst w) good.0.given e)

unit_is_lawful : (i : Inst) (words : List ℕ) → IsGiven i → AreGood words → IsLawful (unit_of i words)
unit_is_lawful (instructions.Syscall code) words given good = tt
unit_is_lawful (instructions.Break code) words given good = given.value
unit_is_lawful (instructions.Reserved word) words given good = given.value
unit_is_lawful (instructions.JumpRegister rs) words given good = branch_is_lawful (instructions.JumpRegister rs) words (transfer _ given refl) good
unit_is_lawful (instructions.JumpAndLinkRegister rs rd) words given good = branch_is_lawful (instructions.JumpAndLinkRegister rs rd) words (transfer _ given refl) good
unit_is_lawful (instructions.BranchSign name rs imm) words given good = branch_is_lawful (instructions.BranchSign name rs imm) words (transfer _ given refl) good
unit_is_lawful (instructions.Jump name index) words given good = branch_is_lawful (instructions.Jump name index) words (transfer _ given refl) good
unit_is_lawful (instructions.BranchEqual name rs rt imm) words given good = branch_is_lawful (instructions.BranchEqual name rs rt imm) words (transfer _ given refl) good
unit_is_lawful (instructions.BranchZero name rs imm) words given good = branch_is_lawful (instructions.BranchZero name rs imm) words (transfer _ given refl) good
unit_is_lawful other words given good = (instruction other given refl, refl)

good_units : (words : List ℕ) → AreGood words → All IsLawful (units_of words)
good_units [] good = All-nil IsLawful
good_units (w ∷ words) good =
    All-cons IsLawful (unit_of (inst w) words) (units_of words) (unit_is_lawful (inst w) words good.0.given good.1) (good_units words good.1)

good_unit : (words : List ℕ) (k : ℕ) (unit : Unit) → AreGood words → slice_get (units_of words) k ≡ Some unit → IsLawful unit
good_unit [] k unit good there = cc
good_unit (w ∷ words) zero unit good there =
    let same : unit_of (inst w) words ≡ unit = cc in
    subst IsLawful same (unit_is_lawful (inst w) words good.0.given good.1)
good_unit (w ∷ words) (suc k) unit good there = good_unit words k unit good.1 there

pub all_lawful : InvertsDecoding → (words : List ℕ) → All IsWord words → HasNoFloat words → All IsLawful (units_of words)
all_lawful inverts words are none = good_units words (words_are_good inverts words are none)

pub each_lawful : InvertsDecoding → (words : List ℕ) (k : ℕ) (unit : Unit) → All IsWord words → HasNoFloat words
    → slice_get (units_of words) k ≡ Some unit → IsLawful unit
each_lawful inverts words k unit are none there = good_unit words k unit (words_are_good inverts words are none) there

-- ---- the registers of lawful units

numbers-append : (first second : List Register) → AreNumbers first → AreNumbers second → AreNumbers (first ++ second)
numbers-append [] second a b = b
numbers-append (general r ∷ first) second a b = (a.0, numbers-append first second a.1 b)
numbers-append (special name ∷ first) second a b = numbers-append first second a b

pub reads_are_numbers : (unit : Unit) → IsLawful unit → AreNumbers (unit_reads unit)
reads_are_numbers (units.Plain i) is = is.0.fields.reads
reads_are_numbers (units.Branch i slot) is = numbers-append (read_by i) (read_by slot) is.0.fields.reads is.1.fields.reads
reads_are_numbers (units.SlotMissing i) is = is.fields.reads
reads_are_numbers (units.SlotIsBranch i word) is = is.0.fields.reads
reads_are_numbers units.Call is = (lit< tt, (lit< tt, (lit< tt, (lit< tt, (lit< tt, tt)))))
reads_are_numbers (units.Trap kind value) is = tt

pub writes_are_numbers : (unit : Unit) → IsLawful unit → AreNumbers (unit_writes unit)
writes_are_numbers (units.Plain i) is = is.0.fields.writes
writes_are_numbers (units.Branch i slot) is = numbers-append (written_by i) (written_by slot) is.0.fields.writes is.1.fields.writes
writes_are_numbers (units.SlotMissing i) is = is.fields.writes
writes_are_numbers (units.SlotIsBranch i word) is = is.0.fields.writes
writes_are_numbers units.Call is = (lit< tt, tt)
writes_are_numbers (units.Trap kind value) is = tt
