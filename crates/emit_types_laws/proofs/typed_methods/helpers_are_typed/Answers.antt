use Rattle.emit_types_laws.proofs.TypedMethods.Helpers.{helpers-typed}
use Rattle.emit_types_laws.proofs.typed_methods.helpers_are_typed.Goals as goal

pub returns : goal.returns
returns c order program helpers number few = helpers-typed order program helpers number few
