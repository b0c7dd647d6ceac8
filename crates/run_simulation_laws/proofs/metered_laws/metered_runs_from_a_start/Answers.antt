use Rattle.run_definition.specs.Answer.{next_answer}
use Rattle.run_simulation_laws.proofs.Answering.{next_fits}
use Rattle.run_simulation_laws.proofs.Paying.{metered-start}
use Rattle.run_simulation_laws.proofs.metered_laws.metered_runs_from_a_start.Goals as goal

pub returns-clause-answered : goal.returns-clause-answered
returns-clause-answered g c f m k room = metered-start f next_answer (λ k l q a. next_fits k l q a) m k room

pub returns-clause-served : goal.returns-clause-served
returns-clause-served g c f m k room = metered-start f g.V.Server.reply c.requires.fitting m k room
