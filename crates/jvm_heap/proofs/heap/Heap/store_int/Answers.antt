use Rattle.std.proofs.Common.{sym}
use Rattle.jvm_heap.proofs.heap.Heap.store_int.Goals as goal

pub invariant_of-self : goal.invariant_of-self
invariant_of-self c = c.store_int.ensures.safe c.self.inside.readable c.self.inside.writable c.self.invariant

pub returns-clause-ok : goal.returns-clause-ok
returns-clause-ok c = rw (sym c.self.view_is) c.store_int.ensures.ok

pub returns-clause-err : goal.returns-clause-err
returns-clause-err c = rw (sym c.self.view_is) c.store_int.ensures.err
