use Rattle.jvm_definition_laws.proofs.Turning.{turn-at-line}
use Rattle.jvm_definition_laws.proofs.step_laws.turns_where_code_stands.Goals as goal

pub returns : goal.returns
returns c program words m by at lines line w others it =
    turn-at-line program words m by at lines line w others it.stands it.line_is
