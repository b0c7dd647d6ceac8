use Rattle.emit_types_laws.proofs.TypedSteps.Standing.{body-typed}
use Rattle.emit_types_laws.proofs.typed_steps.bodies_are_typed.Goals as goal

pub returns : goal.returns
returns c rules method code h = body-typed rules method code h
