use Rattle.emit_types_laws.proofs.TypedSteps.Looping.{flows-body}
use Rattle.emit_types_laws.proofs.typed_steps.loops_are_typed.Goals as goal

pub returns : goal.returns
returns c rules code from ahead h owed = flows-body rules code from ahead h owed
