use Rattle.std.proofs.Common.{sym}
use Rattle.jvm_heap.proofs.heap.Heap.int_at.Goals as goal

pub returns-clause-ok : goal.returns-clause-ok
returns-clause-ok c = rw (sym c.self.view_is) c.int_at.ensures.ok

pub returns-clause-err : goal.returns-clause-err
returns-clause-err c = rw (sym c.self.view_is) c.int_at.ensures.err
