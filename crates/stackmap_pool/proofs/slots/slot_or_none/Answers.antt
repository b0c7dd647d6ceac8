use Rattle.std.proofs.Common.{sym, arith}
use Rattle.stackmap_pool.specs.Longer.{is_class_of_name}
use Rattle.stackmap_pool.proofs.PoolLaws.{slot-near}
use Rattle.stackmap_pool.proofs.slots.slot_or_none.Goals as goal

pub overflow_cast-result : goal.overflow_cast-result
overflow_cast-result c =
    let near = slot-near (is_class_of_name c.args.pool.now c.args.name.now) c.args.pool.now c.in-Some.slot (sym c.in-Some.ensures) in
    omega (arith, near, c.requires)
