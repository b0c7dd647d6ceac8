use Rattle.std.proofs.Common.{◌≡◌, ◌+◌, length}
use Rattle.class_definition.specs.Format.{chain_reading, repeated}
use Rattle.class_format.proofs.Loops.{with_front}
use Rattle.stackmap_table.specs.Tables.{frame}
use Rattle.stackmap_table.proofs.reading.frames_of.Given as goal

abbrev pub invariant-loop-to_come : goal.invariant-loop-to_come
invariant-loop-to_come l =
    (with_front l.frames.items (chain_reading {S = Unit {0}} (λ _ _. frame l.pool) (λ s _. s) tt l.to_come l.rest) ≡ (repeated (frame l.pool) l.count).read l.bytes)
    × (length l.frames.items + l.to_come ≡ l.count)

abbrev pub decreases-loop-to_come : goal.decreases-loop-to_come
decreases-loop-to_come l = l.to_come
