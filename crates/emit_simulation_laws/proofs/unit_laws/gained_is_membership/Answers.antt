use Rattle.emit_simulation_laws.proofs.LawfulUnits.Sets.{gained-append, gained-has}
use Rattle.emit_simulation_laws.proofs.unit_laws.gained_is_membership.Goals as goal

pub returns-clause-either : goal.returns-clause-either
returns-clause-either c = gained-has

pub returns-clause-joined : goal.returns-clause-joined
returns-clause-joined c = gained-append
