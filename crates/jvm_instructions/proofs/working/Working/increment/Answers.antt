use Rattle.jvm_instructions.specs.Workings.{workspace}
use Rattle.jvm_instructions.proofs.working.Working.increment.Goals as goal

pub returns-clause-does : goal.returns-clause-does
returns-clause-does c = λ program. c.increment.ensures.does program c.args.self.now.heap.region.size (workspace c.args.self.now)
