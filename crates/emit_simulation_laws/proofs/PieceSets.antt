-- The registers that a piece writes: they are in its bank, and they are known behind it.
use Rattle.std.proofs.Common.{◌≡◌, ℕ, suc, ◌<◌, ◌==◌, ◌||◌, Bool, true, max, List, [], ◌∷◌, ◌++◌, All, refl, ap, sym, ◌∙◌, arith}
use Rattle.std.specs.Prelude.{bit_or, nat_lt}
use Rattle.std.specs.Int.{bit_at}
use Rattle.std.specs.List.{AllByRecursion, flat_map}
use Rattle.std.proofs.lemmas.Bool.{and_from, eqb-true, eq-eqb, lt-ltb}
use Rattle.std.proofs.lemmas.List.Folds.{list_any-append}
use Rattle.std.proofs.lemmas.Nat.Bits.{bit_at-lt, bit_at_or}
use Rattle.delay_slots.specs.declared.unit.Unit.{Unit as Word}
use Rattle.delay_slots.specs.declared.unit.Unit.TheVariants as units
use Rattle.block_builder.specs.Registers.{Register, general, special, register_set, unit_reads, unit_writes}
use Rattle.emit_instructions.specs.Access.{keeps}
use Rattle.word_emitter.specs.Pieces.{bank_of, is_written}
use Rattle.emit_simulation_laws.specs.Knowing.{AreNumbers, gained}
use Rattle.emit_simulation_laws.specs.Lawful.{IsLawful, has_register, is_general}
use Rattle.emit_simulation_laws.specs.UnitLaws.{GainsFollowEachOther, ListedAreGained, SetsHaveWhatIsListed, UnitsWriteNumbers, NeededIsKnown, FirstFindsItsNeeds, OthersFindTheirNeeds}

-- each unit of a piece is lawful
abbrev pub AreLawful : List Word → Type 0
AreLawful piece = AllByRecursion IsLawful piece

pub are-lawful : (piece : List Word) → All IsLawful piece → AreLawful piece
are-lawful [] all = tt
are-lawful (unit ∷ piece) all = (all 0 units.Call (omega arith), are-lawful piece (λ k d below. all (suc k) d (omega (arith, below))))

-- what the laws of lawful units say of registers
pub record SetLaws : Type 0 where
  pub is_membership : SetsHaveWhatIsListed
  pub gained_is : ListedAreGained
  pub gained_joined : GainsFollowEachOther
  pub writes_numbers : UnitsWriteNumbers

-- what lawful units need is known before them
pub record NeedLaws : Type 0 where
  pub unit_known : NeededIsKnown
  pub first_known : FirstFindsItsNeeds
  pub others_known : OthersFindTheirNeeds

numbers-append : (first second : List Register) → AreNumbers first → AreNumbers second → AreNumbers (first ++ second)
numbers-append [] second a b = b
numbers-append (general r ∷ first) second a b = (a.0, numbers-append first second a.1 b)
numbers-append (special name ∷ first) second a b = numbers-append first second a b

module _ (laws : SetLaws) where
  numbers : (piece : List Word) → AreLawful piece → AreNumbers (flat_map unit_writes piece)
  numbers [] lawful = tt
  numbers (unit ∷ piece) lawful =
      numbers-append (unit_writes unit) (flat_map unit_writes piece) (laws.writes_numbers unit lawful.0) (numbers piece lawful.1)

  pub written-is : (piece : List Word) (r : ℕ) → AreLawful piece → 0 < r → r < 32 → is_written piece r ≡ has_register (flat_map unit_writes piece) r
  written-is [] r lawful positive below = refl
  written-is (unit ∷ piece) r lawful positive below =
      ap (λ b. b || is_written piece r) (laws.is_membership (unit_writes unit) r (laws.writes_numbers unit lawful.0) positive below)
      ∙ ap (λ b. has_register (unit_writes unit) r || b) (written-is piece r lawful.1 positive below)
      ∙ sym (list_any-append (is_general r) (unit_writes unit) (flat_map unit_writes piece))

  -- a register that is written is kept in a local variable
  pub written-kept : (piece : List Word) (r : ℕ) → AreLawful piece → 0 < r → r < 32 → is_written piece r ≡ true → keeps (bank_of piece) r ≡ true
  written-kept piece r lawful positive below is =
      let reads : ℕ = register_set (flat_map unit_reads piece) in
      let writes : ℕ = register_set (flat_map unit_writes piece) in
      let there : (bit_at writes r == 1) ≡ true = laws.is_membership (flat_map unit_writes piece) r (numbers piece lawful) positive below ∙ sym
      (written-is piece r lawful positive below) ∙ is in
      let one : bit_at writes r ≡ 1 = eqb-true (bit_at writes r) 1 there in
      let few = bit_at-lt reads r in
      let either : bit_at (bit_or reads writes) r ≡ max (bit_at reads r) (bit_at writes r) = bit_at_or reads writes r in
      and_from (nat_lt r 32) (bit_at (bit_or reads writes) r == 1) (lt-ltb r 32 below)
      (eq-eqb (bit_at (bit_or reads writes) r) 1 (omega (arith, one, few, either)))

  -- what is known behind a piece
  pub known-behind : (piece : List Word) (known : ℕ → Bool) (r : ℕ) → AreLawful piece → 0 < r → r < 32
      → gained (flat_map unit_writes piece) known r ≡ (is_written piece r || known r)
  known-behind piece known r lawful positive below =
      laws.gained_is (flat_map unit_writes piece) known r ∙ ap (λ b. b || known r) (sym (written-is piece r lawful positive below))
