use Rattle.std.proofs.Common.{length, take, ◌-◌, ◌≡◌, ◌≤◌}
use Rattle.method_splitter.specs.Cuts.{span_weight}
use Rattle.method_splitter.proofs.cutting.fitting.Given as goal

abbrev pub invariant-loop-words : goal.invariant-loop-words
invariant-loop-words l = (l.words ≤ length l.weights) × (l.bytes ≡ span_weight (take l.words l.weights)) × (l.bytes ≤ l.limit)

abbrev pub decreases-loop-words : goal.decreases-loop-words
decreases-loop-words l = length l.weights - l.words
