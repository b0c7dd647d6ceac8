use Rattle.jvm_instructions.specs.Workings.{workspace}
use Rattle.jvm_instructions.proofs.Results.{on_ok, if_err}
use Rattle.jvm_instructions.proofs.working.Working.int_division.Goals as goal

pub returns-clause-ok : goal.returns-clause-ok
returns-clause-ok c = on_ok c.int_division.result (λ h program. h program c.args.self.now.heap.region.size (workspace c.args.self.now)) c.int_division.ensures.ok

pub returns-clause-err : goal.returns-clause-err
returns-clause-err c = if_err c.int_division.result (λ trap h program. h program c.args.self.now.heap.region.size (workspace c.args.self.now)) c.int_division.ensures.err
