use Rattle.std.proofs.Common.{arith}
use Rattle.mips_asm_laws.proofs.Contents.{entry_read, order_read}
use Rattle.mips_asm_laws.proofs.laws.parts_are_held.Goals as goal

pub returns-clause-entry : goal.returns-clause-entry
returns-clause-entry c = entry_read c.args.parts.now (omega arith)

pub returns-clause-order : goal.returns-clause-order
returns-clause-order c = order_read c.args.parts.now
