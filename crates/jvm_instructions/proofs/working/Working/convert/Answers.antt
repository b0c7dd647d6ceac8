use Rattle.jvm_instructions.specs.Workings.{workspace}
use Rattle.jvm_instructions.proofs.working.Working.convert.Goals as goal

pub returns-clause-does : goal.returns-clause-does
returns-clause-does c = λ program. c.convert.ensures.does program c.args.self.now.heap.region.size (workspace c.args.self.now)
