use Rattle.std.proofs.Common.{◌≡◌, ◌-◌, ◌<◌, ◌≤◌, false, length}
use Rattle.std.specs.Prelude.{find, slice_index_or}
use Rattle.std.specs.List.{range_with_len}
use Rattle.block_builder.specs.Blocks.{ends}
use Rattle.block_builder.proofs.builder.end_of.Given as goal

-- no block ended before
abbrev pub invariant-loop-last : goal.invariant-loop-last
invariant-loop-last l = record {
  from : l.first ≤ l.last;
  within : l.last < length l.units;
  same : find (ends l.units (λ k. slice_index_or l.leaders k false)) (range_with_len l.last (length l.units - l.last))
      ≡ find (ends l.units (λ k. slice_index_or l.leaders k false)) (range_with_len l.first (length l.units - l.first));
}

abbrev pub decreases-loop-last : goal.decreases-loop-last
decreases-loop-last l = length l.units - l.last
