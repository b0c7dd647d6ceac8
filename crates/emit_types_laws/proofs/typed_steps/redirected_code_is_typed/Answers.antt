use Rattle.emit_types_laws.proofs.TypedSteps.Joining.{code-redirected}
use Rattle.emit_types_laws.proofs.typed_steps.redirected_code_is_typed.Goals as goal

pub returns : goal.returns
returns c program old new to code from behind carries plain t = code-redirected program old new to code from behind carries plain t
