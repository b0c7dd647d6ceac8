use Rattle.std.proofs.Common.{◌≡◌, length}
use Rattle.class_definition.specs.Switches.{rises_from}
use Rattle.jvm_code.proofs.switch_reading.rises_from.Given as goal

abbrev pub invariant-loop-pair : goal.invariant-loop-pair
invariant-loop-pair l = rises_from l.key l.rest ≡ rises_from l.first l.pairs

abbrev pub decreases-loop-pair : goal.decreases-loop-pair
decreases-loop-pair l = length l.rest
