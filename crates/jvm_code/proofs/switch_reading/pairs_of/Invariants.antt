use Rattle.std.proofs.Common.{◌≡◌}
use Rattle.class_definition.specs.Format.{chain_reading, repeated}
use Rattle.class_format.proofs.Loops.{with_front}
use Rattle.class_definition.specs.Switches.{pair}
use Rattle.jvm_code.proofs.switch_reading.pairs_of.Given as goal

abbrev pub invariant-loop-to_come : goal.invariant-loop-to_come
invariant-loop-to_come l =
    with_front l.pairs.items (chain_reading {S = Unit {0}} (λ _ _. pair l.at) (λ s _. s) tt l.to_come l.rest) ≡ (repeated (pair l.at) l.count).read l.bytes

abbrev pub decreases-loop-to_come : goal.decreases-loop-to_come
decreases-loop-to_come l = l.to_come
