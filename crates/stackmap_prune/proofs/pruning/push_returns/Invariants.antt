use Rattle.std.proofs.Common.{◌≡◌, ◌++◌}
use Rattle.stackmap_prune.specs.Code.{returns_at}
use Rattle.stackmap_prune.proofs.pruning.push_returns.Given as goal

abbrev pub invariant-loop-i : goal.invariant-loop-i
invariant-loop-i l = l.lines.items ≡ l.fn.lines.items ++ returns_at l.name l.at l.i
