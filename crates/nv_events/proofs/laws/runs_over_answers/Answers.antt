use Rattle.run_definition.specs.Answer.{next_answer}
use Rattle.nv_events.proofs.RunLaws.{longer-runs, run_of-more}
use Rattle.nv_events.proofs.laws.runs_over_answers.Goals as goal

pub returns-clause-longer : goal.returns-clause-longer
returns-clause-longer g c = longer-runs g.M.Machine.turn next_answer

pub returns-clause-more : goal.returns-clause-more
returns-clause-more g c = run_of-more g.M.Machine.turn
