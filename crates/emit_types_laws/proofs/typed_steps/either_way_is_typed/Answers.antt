use Rattle.emit_types_laws.proofs.TypedSteps.Joining.{either-leads}
use Rattle.emit_types_laws.proofs.typed_steps.either_way_is_typed.Goals as goal

pub returns : goal.returns
returns c rules name first second from between to k j test room k_is j_is t u =
    either-leads rules name first second from between to k j test room k_is j_is t u
