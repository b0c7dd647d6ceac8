use Rattle.std.proofs.Common.{◌≡◌}
use Rattle.class_definition.specs.Format.{chain_reading, repeated}
use Rattle.class_format.proofs.Loops.{with_front}
use Rattle.class_definition.specs.Tables.{framed_method}
use Rattle.class_reader.proofs.framed_member_reading.so_many_methods.Given as goal

abbrev pub invariant-loop-to_come : goal.invariant-loop-to_come
invariant-loop-to_come l =
    with_front l.methods.items (chain_reading {S = Unit {0}} (λ _ _. framed_method l.pool) (λ s _. s) tt l.to_come l.rest) ≡ (repeated (framed_method l.pool) l.count).read l.bytes

abbrev pub decreases-loop-to_come : goal.decreases-loop-to_come
decreases-loop-to_come l = l.to_come
