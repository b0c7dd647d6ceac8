use Rattle.emit_types_laws.proofs.TypedSteps.Joining.{parts-typed}
use Rattle.emit_types_laws.proofs.typed_steps.parts_are_typed.Goals as goal

pub returns : goal.returns
returns c rules part parts f behind m all = parts-typed rules part parts f behind m all
