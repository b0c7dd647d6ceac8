use Rattle.std.proofs.Common.{◌≡◌}
use Rattle.class_definition.specs.Format.{chain_reading, repeated}
use Rattle.class_format.proofs.Loops.{with_front}
use Rattle.class_definition.specs.Members.{method}
use Rattle.class_reader.proofs.member_reading.so_many_methods.Given as goal

abbrev pub invariant-loop-to_come : goal.invariant-loop-to_come
invariant-loop-to_come l =
    with_front l.methods.items (chain_reading {S = Unit {0}} (λ _ _. method l.pool) (λ s _. s) tt l.to_come l.rest) ≡ (repeated (method l.pool) l.count).read l.bytes

abbrev pub decreases-loop-to_come : goal.decreases-loop-to_come
decreases-loop-to_come l = l.to_come
