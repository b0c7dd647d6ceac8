use Rattle.nv_events.proofs.LeadsLaws.{leads_join}
use Rattle.nv_events.proofs.laws.leads_join.Goals as goal

pub returns : goal.returns
returns g c = leads_join g.V.Server.goes
