use Rattle.run_definition.specs.Answer.{next_answer}
use Rattle.run_simulation_laws.proofs.Answering.{next_fits}
use Rattle.run_simulation_laws.proofs.Loading.{comes_to_marks}
use Rattle.run_simulation_laws.proofs.laws.comes_to_marks.Goals as goal

pub returns : goal.returns
returns g c f marks n answers one goes marked =
    comes_to_marks f.machines next_answer g.T.Translation.rests f.most f.start f.allowed f.guest_at
    f.classes_at f.follows (λ k l q a. next_fits k l q a) g.T.Translation.at_place marks n answers one goes
    marked
