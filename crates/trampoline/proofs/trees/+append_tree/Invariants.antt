use Rattle.std.proofs.Common.{length}
use Rattle.trampoline.proofs.trees.+append_tree.Given as goal

abbrev pub decreases-append_tree : goal.decreases-append_tree
decreases-append_tree l = length l.starts.now
