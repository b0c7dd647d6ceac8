use Rattle.emit_simulation_laws.proofs.LawfulUnits.Sets.{is_in-has}
use Rattle.emit_simulation_laws.proofs.unit_laws.is_in_is_membership.Goals as goal

pub returns : goal.returns
returns c = is_in-has
