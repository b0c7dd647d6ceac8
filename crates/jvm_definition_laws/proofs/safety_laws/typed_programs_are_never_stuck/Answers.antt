use Rattle.run_definition.specs.Answer.{next_answer}
use Rattle.jvm_definition.specs.Step.{jvm_start}
use Rattle.jvm_definition_laws.proofs.StepLaws.{start_safe}
use Rattle.jvm_definition_laws.proofs.RunSafety.{safe_run}
use Rattle.jvm_definition_laws.proofs.safety_laws.typed_programs_are_never_stuck.Goals as goal

pub returns-clause-answers : goal.returns-clause-answers
returns-clause-answers g c program words n answers typed linked =
    (safe_run program words next_answer typed linked n (jvm_start program) answers (start_safe program typed linked)).outcome

pub returns-clause-servers : goal.returns-clause-servers
returns-clause-servers g c program words n k typed linked =
    (safe_run program words g.V.Server.reply typed linked n (jvm_start program) k (start_safe program typed linked)).outcome
