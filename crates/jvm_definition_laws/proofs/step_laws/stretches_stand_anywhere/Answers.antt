use Rattle.jvm_definition_laws.proofs.Stretches.{stretch-stands}
use Rattle.jvm_definition_laws.proofs.step_laws.stretches_stand_anywhere.Goals as goal

pub returns : goal.returns
returns c program words m by n at lines w others p it =
    stretch-stands program words m by lines others it.stands n at w p it.leads
