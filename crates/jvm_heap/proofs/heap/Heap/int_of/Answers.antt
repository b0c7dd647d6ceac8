use Rattle.std.proofs.Common.{sym}
use Rattle.jvm_heap.proofs.heap.Heap.int_of.Goals as goal

pub returns : goal.returns
returns c = rw (sym c.self.view_is) c.int_of.ensures
