use Rattle.std.proofs.Common.{◌≡◌}
use Rattle.class_definition.specs.Format.{chain_reading, repeated}
use Rattle.class_format.proofs.Loops.{with_front}
use Rattle.stackmap_table.specs.Tables.{type_at}
use Rattle.stackmap_table.proofs.types.types_of.Given as goal

abbrev pub invariant-loop-to_come : goal.invariant-loop-to_come
invariant-loop-to_come l =
    with_front l.types.items (chain_reading {S = Unit {0}} (λ _ _. type_at l.pool l.place) (λ s _. s) tt l.to_come l.rest) ≡ (repeated (type_at l.pool l.place) l.count).read l.bytes

abbrev pub decreases-loop-to_come : goal.decreases-loop-to_come
decreases-loop-to_come l = l.to_come
