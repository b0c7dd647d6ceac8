use Rattle.std.proofs.Common.{ap, arith}
use Rattle.stackmap_table.specs.Forms.{kinds_size}
use Rattle.stackmap_table.proofs.SizedLaws.{kinds-small}
use Rattle.stackmap_table.proofs.sizes.kinds_size.Goals as goal

pub overflow_add-size : goal.overflow_add-size
overflow_add-size c =
    omega (arith, kinds-small c.args.kinds.now, c.requires, c.loop-kind.invariant.0, ap kinds_size c.in-Some.ensures.cases.0, c.kind_size-size.ensures)

pub returns-clause-small : goal.returns-clause-small
returns-clause-small c = omega (arith, kinds-small c.args.kinds.now, c.requires, c.loop-kind.invariant.0)
