use Rattle.run_definition.specs.Answer.{next_answer}
use Rattle.run_simulation_laws.proofs.Answering.{next_fits}
use Rattle.run_simulation_laws.proofs.Loading.{counts, whole_counts}
use Rattle.run_simulation_laws.proofs.laws.counts.Goals as goal

pub returns : goal.returns
returns g c f = record {
  behind_call = λ i m answers.
      counts f.machines next_answer g.T.Translation.rests f.most f.start f.allowed f.guest_at f.classes_at
      f.follows (λ k l q a. next_fits k l q a) i m answers;
  all = λ weight before none m answers.
      whole_counts f.machines next_answer g.T.Translation.rests f.most f.start f.allowed f.guest_at
      f.classes_at f.follows (λ k l q a. next_fits k l q a) weight before none m answers;
}
