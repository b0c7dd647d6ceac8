use Rattle.run_definition.specs.Answer.{next_answer}
use Rattle.run_simulation_laws.proofs.Answering.{next_fits}
use Rattle.run_simulation_laws.proofs.Loading.{same_runs}
use Rattle.run_simulation_laws.proofs.laws.same_runs.Goals as goal

pub returns : goal.returns
returns g c f answers =
    same_runs f.machines next_answer g.T.Translation.rests f.most f.start f.allowed f.guest_at f.classes_at
    f.follows (λ k l q a. next_fits k l q a) answers
