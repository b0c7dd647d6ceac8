use Rattle.jvm_instructions.specs.Workings.{workspace}
use Rattle.jvm_instructions.proofs.Results.{on_ok, if_err}
use Rattle.jvm_instructions.proofs.working.Working.new_array.Goals as goal

pub returns-clause-ok : goal.returns-clause-ok
returns-clause-ok c = on_ok c.new_array.result (λ h program. h program (workspace c.args.self.now)) c.new_array.ensures.ok

pub returns-clause-err : goal.returns-clause-err
returns-clause-err c = if_err c.new_array.result (λ trap h program. h program (workspace c.args.self.now)) c.new_array.ensures.err
