use Rattle.std.specs.Prelude.{◌≡◌, ◌≤◌, ◌-◌, ◌++◌, ℕ, List, Option, None, length, replicate, reverse}
use Rattle.std.specs.List.{range_with_len}
use Rattle.block_pool.specs.Blocks.{Pool, IsSound}
use Rattle.block_pool.specs.declared.block.Block.{Block}

-- the pool that is kept as the blocks that were ever taken, the numbers of those that were given back, the last at the
-- end, and how many blocks there are
abbrev pub pool_of : List (Option Block) → List ℕ → ℕ → Pool
pool_of slots given size = record {
  blocks = slots ++ replicate (size - length slots) None;
  order = reverse given ++ range_with_len (length slots) (size - length slots);
}

-- what is always true of what is kept, where there is room for this many slots and numbers
pub record AreKeptBlocks (slots : List (Option Block)) (given : List ℕ)
    (size slot_room given_room : ℕ) : Type 0 where
  pub sound : IsSound (pool_of slots given size)
  pub within : length slots ≤ size
  pub slots_fit : slot_room ≡ size
  pub given_fit : given_room ≡ size
  pub few : size ≤ 65536
