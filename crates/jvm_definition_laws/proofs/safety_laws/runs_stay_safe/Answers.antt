use Rattle.run_definition.specs.Answer.{next_answer}
use Rattle.jvm_definition_laws.proofs.RunSafety.{safe_run}
use Rattle.jvm_definition_laws.proofs.safety_laws.runs_stay_safe.Goals as goal

pub returns-clause-answers : goal.returns-clause-answers
returns-clause-answers g c program words n s answers typed linked safe =
    (safe_run program words next_answer typed linked n s answers safe).last

pub returns-clause-servers : goal.returns-clause-servers
returns-clause-servers g c program words n s k typed linked safe =
    (safe_run program words g.V.Server.reply typed linked n s k safe).last
