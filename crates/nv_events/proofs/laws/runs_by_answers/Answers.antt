use Rattle.nv_events.proofs.RunLaws.{run_of-list}
use Rattle.nv_events.proofs.laws.runs_by_answers.Goals as goal

pub returns : goal.returns
returns g c = run_of-list g.M.Machine.turn g.V.Server.reply c.requires.fitting
