use Rattle.jvm_instructions.specs.Workings.{workspace}
use Rattle.jvm_instructions.proofs.working.Working.long_arithmetic.Goals as goal

pub returns-clause-does : goal.returns-clause-does
returns-clause-does c = λ program. c.long_arithmetic.ensures.does program c.args.self.now.heap.region.size (workspace c.args.self.now)
