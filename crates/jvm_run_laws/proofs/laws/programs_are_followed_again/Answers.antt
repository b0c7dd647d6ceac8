use Rattle.run_definition.specs.Answer.{next_answer}
use Rattle.jvm_run_laws.proofs.Followed.{followed-again}
use Rattle.jvm_run_laws.proofs.laws.programs_are_followed_again.Goals as goal

pub returns-clause-served : goal.returns-clause-served
returns-clause-served g c = followed-again g.G.Machine.turn g.V.Server.reply

pub returns-clause-listed : goal.returns-clause-listed
returns-clause-listed g c = followed-again g.G.Machine.turn next_answer
