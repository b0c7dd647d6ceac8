use Rattle.emit_types_laws.proofs.TypedSteps.Joining.{codes-lead}
use Rattle.emit_types_laws.proofs.typed_steps.typed_codes_follow_each_other.Goals as goal

pub returns : goal.returns
returns c rules first second from between behind t u = codes-lead rules first second from between behind t u
