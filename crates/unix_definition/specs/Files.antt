-- The files of a small disk, as plain data: found by name, resized, written and dropped. A file uses its length divided by 4,096,
-- rounded up, blocks.
use Rattle.std.specs.Prelude.{ℕ, ◌+◌, ◌-◌, ◌/◌, Bool, false, nat_le, List, [], ◌++◌, length, take, drop, replicate, Option, Some, None, option_map, unwrap_or, is_none, bytes_eq, position, slice_index_or, slice_set}

-- A file: its name, which is gone once the file is unlinked, and its bytes.
pub record Node : Type 0 where
  pub name : Option (List ℕ)
  pub bytes : List ℕ

-- The files by the numbers of their nodes, of which there are 256, and how many blocks of 4,096 bytes are free.
pub record GuestFiles : Type 0 where
  pub nodes : List (Option Node)
  pub free : ℕ

-- the blocks that so many bytes need
abbrev pub blocks_for : ℕ → ℕ
blocks_for n = (n + 4095) / 4096

abbrev pub node_at : GuestFiles → ℕ → Option Node
node_at f n = slice_index_or f.nodes n None

-- the bytes of a file, none where there is no such node
abbrev pub node_bytes : Option Node → List ℕ
node_bytes None = []
node_bytes (Some node) = node.bytes

abbrev pub bytes_at : GuestFiles → ℕ → List ℕ
bytes_at f n = node_bytes (node_at f n)

abbrev pub node_name : Option Node → Option (List ℕ)
node_name None = None
node_name (Some node) = node.name

abbrev pub node_has_name : List ℕ → Option Node → Bool
node_has_name name node = unwrap_or (option_map (bytes_eq name) (node_name node)) false

-- the file of a name
abbrev pub node_named : GuestFiles → List ℕ → Option ℕ
node_named f name = position (node_has_name name) f.nodes

-- the lowest number that no node has
abbrev pub free_node : GuestFiles → Option ℕ
free_node f = position is_none f.nodes

-- one node becomes so, and its blocks are those that its bytes need
abbrev pub with_node : GuestFiles → ℕ → Option Node → GuestFiles
with_node f n node = record {
  nodes = slice_set f.nodes n node;
  free = f.free + blocks_for (length (bytes_at f n)) - blocks_for (length (node_bytes node));
}

-- a file that is there has these bytes
abbrev pub with_bytes : GuestFiles → ℕ → List ℕ → GuestFiles
with_bytes f n bytes =
    elim (node_at f n) [
      | None ↦ f
      | Some node ↦ with_node f n
          (Some (record { name = node.name; bytes = bytes }))
    ]

-- a file has this name, or none; one that was not there is made, without bytes
abbrev pub with_name : GuestFiles → ℕ → Option (List ℕ) → GuestFiles
with_name f n name = with_node f n (Some (record { name = name; bytes = bytes_at f n }))

-- whether a file may get so many bytes
abbrev pub has_blocks : GuestFiles → ℕ → ℕ → Bool
has_blocks f n size = nat_le (blocks_for size) (blocks_for (length (bytes_at f n)) + f.free)

-- the bytes up to a length, with zeros where there are too few
abbrev pub resized : List ℕ → ℕ → List ℕ
resized bytes size = take size bytes ++ replicate (size - length bytes) 0

-- the bytes with others written at a place: zeros fill a gap before it
abbrev pub written : List ℕ → ℕ → List ℕ → List ℕ
written bytes place new = resized bytes place ++ new ++ drop (place + length new) bytes
