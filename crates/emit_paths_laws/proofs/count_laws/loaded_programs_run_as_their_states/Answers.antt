use Rattle.run_definition.specs.Answer.{next_answer}
use Rattle.emit_paths_laws.proofs.Loaded.{loaded_run, loaded_counts}
use Rattle.emit_paths_laws.proofs.count_laws.loaded_programs_run_as_their_states.Goals as goal

pub returns-clause-listed : goal.returns-clause-listed
returns-clause-listed g c program words n s answers = loaded_run program words next_answer n s answers

pub returns-clause-served : goal.returns-clause-served
returns-clause-served g c program words n s k = loaded_run program words g.V.Server.reply n s k

pub returns-clause-counts : goal.returns-clause-counts
returns-clause-counts g c program words n s answers weight =
    loaded_counts program words next_answer weight n s answers
