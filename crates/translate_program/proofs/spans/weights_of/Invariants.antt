use Rattle.std.proofs.Common.{◌≡◌, ◌≤◌, All, length}
use Rattle.translate_program.specs.Spans.{weights_of}
use Rattle.translate_program.proofs.spans.weights_of.Given as goal

abbrev pub invariant-loop-k : goal.invariant-loop-k
invariant-loop-k l = (l.weights.items ≡ weights_of l.part l.k) × (length l.weights.items ≡ l.k) × All (λ w. w ≤ 540) l.weights.items
