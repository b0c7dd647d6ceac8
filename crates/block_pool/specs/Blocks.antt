use Rattle.std.specs.Prelude.{◌≡◌, ◌==◌, ℕ, Bool, ◌&&◌, List, Option, Some, None, if◌then◌else◌, option_and_then, slice_index_or, slice_set, IsSome, count_by, is_some, is_none, length, nat_lt, replicate}
use Rattle.std.specs.List.{range_with_len}
use Rattle.block_pool.specs.Bytes.{zeros}
use Rattle.block_pool.specs.declared.block.Block.{Block}

-- A pool of blocks: at each number the block in use, or None where that block is free, and the numbers of the free
-- blocks in the order in which they will be taken.
pub record Pool : Type 0 where
  pub blocks : List (Option Block)
  pub order : List ℕ

-- a pool of n blocks of which none was ever taken: the lowest is taken first
abbrev pub untouched : ℕ → Pool
untouched n = record { blocks = replicate n None; order = range_with_len 0 n }

-- the block in use at a number: None where that block is free, and where the pool has no such number
abbrev pub block_at : Pool → ℕ → Option Block
block_at p b = slice_index_or p.blocks b None

-- the block of this number is in use
abbrev pub IsUsed : Pool → ℕ → Type 0
IsUsed p b = IsSome (block_at p b)

-- whether the pool has a block of this number that is free
abbrev pub is_free : Pool → ℕ → Bool
is_free p b = nat_lt b (length p.blocks) && is_none (block_at p b)

-- the bytes of a block in use, and zeros where there is none
abbrev pub bytes_in : Option Block → List ℕ
bytes_in None = zeros
bytes_in (Some k) = k.bytes

abbrev pub bytes_of : Pool → ℕ → List ℕ
bytes_of p b = bytes_in (block_at p b)

-- a block that was just taken: zeros, and nothing follows it
abbrev pub new_block : Block
new_block = record { bytes = zeros; next = None }

-- the block that follows a block in use
abbrev pub next_of : Pool → ℕ → Option ℕ
next_of p b = option_and_then (λ k. k.next) (block_at p b)

-- this one block in use becomes so, and all else is as before
abbrev pub with_block : Pool → ℕ → List ℕ → Option ℕ → Pool
with_block p b bytes next = record p {
  blocks = slice_set p.blocks b
      (Some (record { bytes = bytes; next = next }));
}

-- this one block in use has these bytes
abbrev pub with_bytes : Pool → ℕ → List ℕ → Pool
with_bytes p b bytes = with_block p b bytes (next_of p b)

-- this one is followed by that
abbrev pub with_next : Pool → ℕ → Option ℕ → Pool
with_next p b to = with_block p b (bytes_of p b) to

-- how many blocks are free, and how many are in use
abbrev pub free_count : Pool → ℕ
free_count p = count_by is_none p.blocks

abbrev pub used_count : Pool → ℕ
used_count p = count_by is_some p.blocks

-- what is true of every pool: `order` names each free block once and no other number, it has as many numbers as blocks
-- are free, and a block in use has 4,096 bytes
pub record IsSound (p : Pool) : Type 0 where
  pub waiting : (b : ℕ) → count_by (λ q. q == b) p.order ≡ (if is_free p b then 1 else 0)
  pub counted : length p.order ≡ free_count p
  pub sized : (b : ℕ) → length (bytes_of p b) ≡ 4096
