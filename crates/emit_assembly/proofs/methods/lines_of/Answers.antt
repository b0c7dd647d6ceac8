use Rattle.std.proofs.Common.{◌≤◌, ◌+◌, arith}
use Rattle.std.specs.Vec.Iter.{into_iter_items}
use Rattle.class_definition.specs.Sizes.{size_at}
use Rattle.emit_assembly.proofs.Spelled.{next-few, next-ends}
use Rattle.emit_assembly.proofs.methods.lines_of.Goals as goal

pub size-requires : goal.size-requires
size-requires c =
    next-few c.loop-op.at (into_iter_items c.loop-op.op-iterator) (into_iter_items c.next.new.self) c.in-Some.op c.in-Some.ensures.steps.0 c.loop-op.invariant.laid

pub overflow_add-next : goal.overflow_add-next
overflow_add-next c =
    let ends : c.loop-op.at + size_at c.loop-op.at c.in-Some.op ≤ 65535 = next-ends c.loop-op.at (into_iter_items c.loop-op.op-iterator) (into_iter_items c.next.new.self) c.in-Some.op c.in-Some.ensures.steps.0 c.loop-op.invariant.laid in
    omega (arith, ends, c.size.ensures.value)
