use Rattle.std.proofs.Common.{◌≡◌, length}
use Rattle.jvm_activations.specs.Keys.{rise_from}
use Rattle.jvm_activations.proofs.switching.keys_rise_from.Given as goal

abbrev pub invariant-loop-key : goal.invariant-loop-key
invariant-loop-key l = rise_from l.last l.rest ≡ rise_from l.first l.keys

abbrev pub decreases-loop-key : goal.decreases-loop-key
decreases-loop-key l = length l.rest
