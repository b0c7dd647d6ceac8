use Rattle.emit_types_laws.proofs.TypedSteps.Joining.{entered-below, left-above}
use Rattle.emit_types_laws.proofs.typed_steps.frames_may_be_moved.Goals as goal

pub returns-clause-entered : goal.returns-clause-entered
returns-clause-entered c rules code below from behind b t = entered-below rules code below from behind b t

pub returns-clause-left : goal.returns-clause-left
returns-clause-left c rules code from to above b t = left-above rules code from to above b t
