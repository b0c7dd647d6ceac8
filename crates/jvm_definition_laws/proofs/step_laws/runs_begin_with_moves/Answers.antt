use Rattle.run_definition.specs.Answer.{next_answer}
use Rattle.jvm_definition.specs.Step.{jvm_turn}
use Rattle.jvm_definition_laws.proofs.Stretches.{run-advanced}
use Rattle.jvm_definition_laws.proofs.step_laws.runs_begin_with_moves.Goals as goal

pub returns-clause-served : goal.returns-clause-served
returns-clause-served g c program words n k s t q =
    run-advanced (jvm_turn program words) g.V.Server.reply n k s t q

pub returns-clause-listed : goal.returns-clause-listed
returns-clause-listed g c program words n k s t answers =
    run-advanced (jvm_turn program words) next_answer n k s t answers
