use Rattle.run_definition.specs.Answer.{next_answer}
use Rattle.jvm_run_laws.proofs.Runs.{runs-far}
use Rattle.jvm_run_laws.proofs.laws.runs_do_not_see_places.Goals as goal

pub returns-clause-served : goal.returns-clause-served
returns-clause-served g c = runs-far g.V.Server.reply

pub returns-clause-listed : goal.returns-clause-listed
returns-clause-listed g c = runs-far next_answer
