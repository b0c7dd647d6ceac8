use Rattle.std.proofs.Common.{◌≡◌, length}
use Rattle.translate_classes.specs.Code.{starts_of}
use Rattle.translate_classes.proofs.running.starts_of.Given as goal

abbrev pub invariant-loop-k : goal.invariant-loop-k
invariant-loop-k l = (l.starts.items ≡ starts_of l.part l.spans l.first_method l.k) × (length l.starts.items ≡ l.k)
