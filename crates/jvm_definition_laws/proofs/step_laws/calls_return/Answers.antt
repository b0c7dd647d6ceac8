use Rattle.jvm_definition_laws.proofs.Stretches.{calls-return}
use Rattle.jvm_definition_laws.proofs.step_laws.calls_return.Goals as goal

pub returns : goal.returns
returns c = calls-return
