-- A range of a program's code as units.
use Rattle.std.specs.Prelude.{◌≡◌, ℕ, ◌+◌, ◌*◌, ◌<◌, Bool, false, List, length, slice_index_or, Option, Some}
use Rattle.elf_definition.specs.declared.range.Range.{Range}
use Rattle.mips_definition.specs.Table.{is_float}
use Rattle.delay_slots.specs.Places.{Address, WordIndex}
use Rattle.delay_slots.specs.Units.{units_of}
use Rattle.block_builder.specs.Leaders.{AreLeaders}
use Rattle.delay_slots.specs.declared.unit.Unit.{Unit}

-- a word stands at an address, and it is none of the floating-point coprocessor
pub record IsWordAt (code : ℕ → Option ℕ) (at : Address) (word : ℕ) : Type 0 where
  pub there : code at ≡ Some word
  pub no_float : is_float word ≡ false

-- the words of a range, in order
pub record AreWords (code : ℕ → Option ℕ) (range : Range) (words : List ℕ) : Type 0 where
  pub count : length words ≡ range.words
  pub each : (k : WordIndex) → k < range.words → code (range.first + 4 * k)
      ≡ Some (slice_index_or words k 0)

-- the units of a range and its leaders
pub record IsRangeCode (code : ℕ → Option ℕ) (range : Range) (units : List Unit) (leads : List Bool)
    : Type 0 where
  pub words : List ℕ
  pub are_words : AreWords code range words
  pub units_are : units ≡ units_of words
  pub leads_are : AreLeaders units range.first leads
