use Rattle.jvm_instructions.specs.Workings.{workspace}
use Rattle.jvm_instructions.proofs.working.Working.int_shift.Goals as goal

pub returns-clause-does : goal.returns-clause-does
returns-clause-does c = λ program. c.int_shift.ensures.does program c.args.self.now.heap.region.size (workspace c.args.self.now)
