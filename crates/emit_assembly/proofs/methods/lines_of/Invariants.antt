use Rattle.std.proofs.Common.{◌≡◌, ◌++◌}
use Rattle.std.specs.Vec.Iter.{into_iter_items}
use Rattle.jvm_code.specs.Writing.{AreLaid}
use Rattle.emit_assembly.specs.Assembling.{lines_at}
use Rattle.emit_assembly.proofs.methods.lines_of.Given as goal

abbrev pub invariant-loop-op : goal.invariant-loop-op
invariant-loop-op l = record {
  laid : AreLaid l.at (lines_at l.at (into_iter_items l.op-iterator));
  all : l.lines.items ++ lines_at l.at (into_iter_items l.op-iterator) ≡ lines_at 0 l.fn.ops.items;
}
