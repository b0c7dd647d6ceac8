use Rattle.run_simulation_laws.proofs.Waiting.{waits-where}
use Rattle.run_simulation_laws.proofs.laws.runs_wait_where_no_answer_is.Goals as goal

pub returns : goal.returns
returns g c turn = waits-where turn g.V.Server.reply
