use Rattle.std.proofs.Common.{ap, length, arith}
use Rattle.class_names.proofs.KeptLemmas.{kept_pool}
use Rattle.class_names.proofs.references.slots_fault.Goals as goal

pub overflow_cast-result : goal.overflow_cast-result
overflow_cast-result c = omega (arith, kept_pool c.args.class.now.class.now c.args.class.now.kept, ap length c.as_slice-pool.ensures)

pub overflow_add-result : goal.overflow_add-result
overflow_add-result c = omega (arith, kept_pool c.args.class.now.class.now c.args.class.now.kept, ap length c.as_slice-pool.ensures)
