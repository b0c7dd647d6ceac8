use Rattle.std.proofs.Common.{length, ◌-◌}
use Rattle.method_splitter.proofs.SpanLemmas.{Comes}
use Rattle.method_splitter.proofs.cutting.cut.Given as goal

abbrev pub invariant-loop-first : goal.invariant-loop-first
invariant-loop-first l = Comes l.weights l.limit l.spans.items l.first

abbrev pub decreases-loop-first : goal.decreases-loop-first
decreases-loop-first l = length l.weights - l.first
