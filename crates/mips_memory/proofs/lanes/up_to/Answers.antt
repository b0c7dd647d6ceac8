use Rattle.std.proofs.Common.{arith}
use Rattle.mips_memory.proofs.lanes.up_to.Goals as goal

pub returns-in-0 : goal.returns-in-0
returns-in-0 c = rw c.in-0.is (omega arith)

pub returns-in-1 : goal.returns-in-1
returns-in-1 c = rw c.in-1.is (omega arith)

pub returns-in-2 : goal.returns-in-2
returns-in-2 c = rw c.in-2.is (omega arith)
