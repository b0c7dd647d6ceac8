use Rattle.unix_calls.proofs.FrameLemmas.{run-behind}
use Rattle.unix_calls.proofs.laws.runs_behind.Goals as goal

pub returns : goal.returns
returns g c = run-behind g.M.Machine.turn
