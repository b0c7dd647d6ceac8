use Rattle.jvm_definition_laws.proofs.Turning.{enters-method}
use Rattle.jvm_definition_laws.proofs.step_laws.calls_enter_methods.Goals as goal

pub returns : goal.returns
returns c program words m by at callee lines line w caller given others it =
    enters-method program words m by at callee lines line w caller given others it.stands it.line_is
