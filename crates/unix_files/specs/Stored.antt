-- How the bytes of files are kept in chains of blocks.
use Rattle.std.specs.Prelude.{◌≡◌, ◌≢◌, ℕ, zero, suc, ◌+◌, ◌-◌, ◌/◌, ◌%◌, ◌<◌, ◌≤◌, ◌⊎◌, List, [], ◌++◌, map, length, take, drop, unwrap_or, slice_index, slice_index_or, slice_set, replicate, if◌then◌else◌, ◌==◌, ◌*◌}
use Rattle.std.specs.List.{range_with_len}
use Rattle.block_pool.specs.Blocks.{Pool, IsSound, IsUsed, block_at, bytes_of, next_of, free_count}
use Rattle.unix_definition.specs.Files.{blocks_for}
use Rattle.unix_files.specs.declared.chain.Chain.{Chain}

-- The bytes of each file by its number, and how many blocks are free.
pub record Contents : Type 0 where
  pub files : List (List ℕ)
  pub free : ℕ

abbrev pub file_at : Contents → ℕ → List ℕ
file_at c n = slice_index_or c.files n []

-- one file has these bytes
abbrev pub with_file : Contents → ℕ → List ℕ → Contents
with_file c n bytes = record {
  files = slice_set c.files n bytes;
  free = c.free + blocks_for (length (file_at c n)) - blocks_for (length bytes);
}

-- bytes of which those from a place on are overwritten
abbrev pub overwritten : List ℕ → ℕ → List ℕ → List ℕ
overwritten bytes at new = take at bytes ++ new ++ drop (at + length new) bytes

abbrev pub empty_chain : Chain
empty_chain = record {
  first = 0;
  last = 0;
  near = 0;
  near_index = 0;
  marks = replicate 256 0;
  size = 0;
}

abbrev pub blocks_in : Chain → ℕ
blocks_in c = blocks_for c.size

-- the block that comes so many after another one
unfoldable pub block_after : Pool → ℕ → ℕ → ℕ
block_after p first zero = first
block_after p first (suc k) = unwrap_or (next_of p (block_after p first k)) 0

abbrev pub block_in : Pool → Chain → ℕ → ℕ
block_in p c k = block_after p c.first k

-- the byte of a file at a place, and all of them
abbrev pub byte_of : Pool → Chain → ℕ → ℕ
byte_of p c i = slice_index (bytes_of p (block_in p c (i / 4096))) (i % 4096)

unfoldable pub file_bytes : Pool → Chain → List ℕ
file_bytes p c = map (byte_of p c) (range_with_len 0 c.size)

abbrev pub chain_at : List Chain → ℕ → Chain
chain_at chains n = slice_index_or chains n empty_chain

abbrev pub contents_of : Pool → List Chain → Contents
contents_of p chains = record { files = map (file_bytes p) chains; free = free_count p }

-- the chain of one block
abbrev pub begun : ℕ → ℕ → Chain
begun b size = record {
  first = b;
  last = b;
  near = b;
  near_index = 0;
  marks = replicate 256 b;
  size = size;
}

-- the marks of a chain after its block of this number was added: every 256th one is kept
abbrev pub marked : List ℕ → ℕ → ℕ → List ℕ
marked marks index b = if (index % 256 == 0) then slice_set marks (index / 256) b else marks

-- the chain whose block of this number was looked up last
abbrev pub looked_up : Pool → Chain → ℕ → Chain
looked_up p c index = record {
  first = c.first;
  last = c.last;
  near = block_in p c index;
  near_index = index;
  marks = c.marks;
  size = c.size;
}

-- A chain whose blocks are in use and differ, and whose short cuts are right.
pub record IsChain (p : Pool) (c : Chain) : Type 0 where
  pub used : (k : ℕ) → k < blocks_in c → IsUsed p (block_in p c k)
  pub once : (k j : ℕ) → k < blocks_in c → j < blocks_in c → block_in p c k ≡ block_in p c j → k ≡ j
  pub last : 0 < blocks_in c → c.last ≡ block_in p c (blocks_in c - 1)
  pub near_within : c.near_index ≤ blocks_in c - 1
  pub near : c.near ≡ block_in p c c.near_index
  pub marks_all : length c.marks ≡ 256
  pub marks : (k : ℕ) → k < 256 → 256 * k < blocks_in c
      → slice_index c.marks k ≡ block_in p c (256 * k)

-- No block belongs to two chains.
pub record IsLaid (p : Pool) (chains : List Chain) : Type 0 where
  pub sound : IsSound p
  pub whole : (n : ℕ) → IsChain p (chain_at chains n)
  pub apart : (n m k j : ℕ) → n ≢ m → k < blocks_in (chain_at chains n)
      → j < blocks_in (chain_at chains m)
      → block_in p (chain_at chains n) k ≢ block_in p (chain_at chains m) j

-- One chain of a pool becomes another: its blocks are from the old one or were free, and no other block in use is changed.
pub record Changes (p q : Pool) (c d : Chain) : Type 0 where
  pub sound : IsSound q
  pub whole : IsChain q d
  pub source : (k : ℕ) → k < blocks_in d → ((k < blocks_in c) × (block_in q d k ≡ block_in p c k))
      ⊎ (IsUsed p (block_in q d k) → ⊥)
  pub others : (b : ℕ) → IsUsed p b → ((k : ℕ) → k < blocks_in c → block_in p c k ≢ b)
      → block_at q b ≡ block_at p b
  pub free : free_count q + blocks_in d ≡ free_count p + blocks_in c
