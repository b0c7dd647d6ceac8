use Rattle.nv_events.proofs.RunLaws.{longer-runs}
use Rattle.nv_events.proofs.laws.runs_add.Goals as goal

pub returns : goal.returns
returns g c = longer-runs g.M.Machine.turn g.V.Server.reply
