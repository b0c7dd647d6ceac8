use Rattle.jvm_instructions.specs.Workings.{workspace}
use Rattle.jvm_instructions.proofs.working.Working.load.Goals as goal

pub returns-clause-does : goal.returns-clause-does
returns-clause-does c = λ program. c.load.ensures.does c.args.kind c.requires.kind program c.args.self.now.heap.region.size (workspace c.args.self.now)
