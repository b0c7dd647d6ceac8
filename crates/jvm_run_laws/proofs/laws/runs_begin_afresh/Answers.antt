use Rattle.std.proofs.Common.{refl}
use Rattle.run_definition.specs.Answer.{next_answer}
use Rattle.jvm_run_laws.proofs.Starts.{runs-afresh}
use Rattle.jvm_run_laws.proofs.laws.runs_begin_afresh.Goals as goal

pub returns-clause-served : goal.returns-clause-served
returns-clause-served g c = runs-afresh g.V.Server.reply

pub returns-clause-listed : goal.returns-clause-listed
returns-clause-listed g c = runs-afresh next_answer

pub returns-clause-first : goal.returns-clause-first
returns-clause-first g c program = refl
