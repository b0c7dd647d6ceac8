use Rattle.std.proofs.Common.{sym}
use Rattle.jvm_heap.proofs.heap.Heap.put_int.Goals as goal

pub invariant_of-self : goal.invariant_of-self
invariant_of-self c = c.put_int.ensures.safe c.self.inside.readable c.self.inside.writable c.self.invariant

pub returns-clause-does : goal.returns-clause-does
returns-clause-does c = rw (sym c.self.view_is) c.put_int.ensures.does

pub returns-clause-traps : goal.returns-clause-traps
returns-clause-traps c = rw (sym c.self.view_is) c.put_int.ensures.traps
