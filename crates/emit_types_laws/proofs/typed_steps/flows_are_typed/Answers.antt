use Rattle.emit_types_laws.proofs.TypedSteps.Flow.{flows-from}
use Rattle.emit_types_laws.proofs.typed_steps.flows_are_typed.Goals as goal

pub returns : goal.returns
returns c rules code from behind h = flows-from rules code from behind h
