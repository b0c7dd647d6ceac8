-- The basic blocks of a range of code: words that are done one after the other.
use Rattle.std.specs.Prelude.{◌≡◌, ℕ, ◌+◌, ◌-◌, ◌<◌, ◌≤◌, Bool, true, not, ◌||◌, ◌==◌, List, length, take, drop, map, filter, find, slice_index_or, unwrap_or}
use Rattle.std.specs.List.{flat_map, range_with_len}
use Rattle.delay_slots.specs.declared.unit.Unit.{Unit}
use Rattle.delay_slots.specs.declared.unit.Unit.TheVariants.{Call}
use Rattle.delay_slots.specs.Places.{Address, WordIndex}
use Rattle.delay_slots.specs.Units.{units_of}
use Rattle.block_builder.specs.declared.block.Block.{Block}
use Rattle.block_builder.specs.Registers.{register_set, unit_reads, unit_writes}
use Rattle.block_builder.specs.Leaders.{is_plain, words_of, is_leader}

-- These are the units of the words of a range.
pub record AreUnits (units : List Unit) : Type 0 where
  pub words : List ℕ
  pub are : units ≡ units_of words

-- the unit of word k, of which only words of the range are asked
abbrev pub unit_at : List Unit → WordIndex → Unit
unit_at units k = slice_index_or units k Call

-- so many words from one on, with the registers that their units read and write
abbrev pub part_of : List Unit → WordIndex → ℕ → Block
part_of units first words =
    let own = take words (drop first units) in
    record {
      first = first;
      words = words;
      reads = register_set (flat_map unit_reads own);
      writes = register_set (flat_map unit_writes own);
    }

-- a block ends with the unit of word k: it is not Plain, or it is the range's last, or a leader follows
abbrev pub ends : List Unit → (ℕ → Bool) → WordIndex → Bool
ends units leads k = not (is_plain (unit_at units k)) || (k + 1 == length units || leads (k + 1))

-- the end of the block that begins at a leader: the first word from there on with which a block ends
abbrev pub end_of : List Unit → (ℕ → Bool) → WordIndex → WordIndex
end_of units leads first =
    unwrap_or (find (ends units leads) (range_with_len first (length units - first))) first

-- the block that begins at a leader, up to its end, and with the word of the delay slot where its last unit is a branch
abbrev pub block_from : List Unit → (ℕ → Bool) → WordIndex → Block
block_from units leads first =
    let last = end_of units leads first in
    part_of units first (last - first + words_of (unit_at units last))

-- one block from each leader, in rising order
abbrev pub blocks_of : List Unit → Address → List Block
blocks_of units start =
    let leads = is_leader units start in
    map (block_from units leads) (filter leads (range_with_len 0 (length units)))

-- A block, or words of one: they are words of the range, with their registers, and where some of them stand behind a unit and its
-- delay slot, the unit is Plain.
pub record IsPiece (units : List Unit) (b : Block) : Type 0 where
  pub within : b.first + b.words ≤ length units
  pub straight : (k : ℕ) → b.first ≤ k → k + words_of (unit_at units k) < b.first + b.words
      → is_plain (unit_at units k) ≡ true
  pub sets : b ≡ part_of units b.first b.words
