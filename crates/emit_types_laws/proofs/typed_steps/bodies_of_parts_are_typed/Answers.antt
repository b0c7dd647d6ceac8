use Rattle.emit_types_laws.proofs.TypedSteps.Assembling.{parts-body}
use Rattle.emit_types_laws.proofs.typed_steps.bodies_of_parts_are_typed.Goals as goal

pub returns : goal.returns
returns c rules front part parts back entry f h = parts-body rules front part parts back entry f h
