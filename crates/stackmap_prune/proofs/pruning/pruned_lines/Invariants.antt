use Rattle.std.proofs.Common.{◌≡◌, ℕ, ◌++◌}
use Rattle.std.specs.Vec.Iter.{into_iter_items}
use Rattle.jvm_code.specs.Writing.{AreLaid}
use Rattle.stackmap_prune.specs.Code.{pruned_lines}
use Rattle.stackmap_prune.specs.Linked.{is_marked}
use Rattle.stackmap_prune.proofs.pruning.pruned_lines.Given as goal

abbrev pub invariant-loop-line : goal.invariant-loop-line
invariant-loop-line l = record {
  at : ℕ;
  laid : AreLaid at (into_iter_items l.line-iterator);
  all : l.pruned.items ++ pruned_lines (is_marked l.marks) l.name (into_iter_items l.line-iterator)
      ≡ pruned_lines (is_marked l.marks) l.name l.fn.lines.items;
}
