use Rattle.run_definition.specs.Answer.{next_answer}
use Rattle.run_simulation_laws.proofs.Answering.{same_told, same_calls}
use Rattle.run_simulation_laws.proofs.laws.same_runs_told.Goals as goal

pub returns : goal.returns
returns g c = record {
  calls = λ guest classes allowed x j same k.
      same_told g.V.Server.reply c.requires.fitting guest classes allowed x j same k;
  runs = λ guest classes allowed x j same k.
      same_told g.V.Server.reply c.requires.fitting guest classes allowed x j
      (λ answers. same_calls guest classes next_answer allowed x j answers (same answers)) k;
}
