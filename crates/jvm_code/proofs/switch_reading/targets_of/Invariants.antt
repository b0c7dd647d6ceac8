use Rattle.std.proofs.Common.{◌≡◌}
use Rattle.class_definition.specs.Format.{chain_reading, repeated}
use Rattle.class_format.proofs.Loops.{with_front}
use Rattle.class_definition.specs.Targets.{wide}
use Rattle.jvm_code.proofs.switch_reading.targets_of.Given as goal

abbrev pub invariant-loop-to_come : goal.invariant-loop-to_come
invariant-loop-to_come l =
    with_front l.targets.items (chain_reading {S = Unit {0}} (λ _ _. wide l.at) (λ s _. s) tt l.to_come l.rest) ≡ (repeated (wide l.at) l.count).read l.bytes

abbrev pub decreases-loop-to_come : goal.decreases-loop-to_come
decreases-loop-to_come l = l.to_come
