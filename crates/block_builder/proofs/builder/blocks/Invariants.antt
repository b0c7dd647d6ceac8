use Rattle.std.proofs.Common.{◌≡◌, ◌-◌, ◌++◌, false, length, map}
use Rattle.std.specs.Prelude.{filter, slice_index_or}
use Rattle.std.specs.List.{range_with_len}
use Rattle.block_builder.specs.Blocks.{block_from}
use Rattle.block_builder.proofs.builder.blocks.Given as goal

-- the blocks so far, and those from the leaders that are left
abbrev pub invariant-loop-first : goal.invariant-loop-first
invariant-loop-first l =
    l.found.items ++ map (block_from l.units (λ k. slice_index_or l.flags k false)) (filter (λ k. slice_index_or l.flags k false) (range_with_len l.first (length l.units - l.first)))
    ≡ map (block_from l.units (λ k. slice_index_or l.flags k false)) (filter (λ k. slice_index_or l.flags k false) (range_with_len 0 (length l.units)))
