use Rattle.std.proofs.Common.{◌+◌, ◌*◌}
use Rattle.run_definition.specs.Answer.{next_answer}
use Rattle.run_simulation_laws.proofs.Answering.{next_fits}
use Rattle.run_simulation_laws.proofs.Following.{round_of}
use Rattle.run_simulation_laws.proofs.Starting.{started_runs, started_counts}
use Rattle.run_simulation_laws.proofs.laws.runs_from_a_start.Goals as goal

pub returns : goal.returns
returns g c f =
    let rests = g.T.Translation.rests in
    record {
      same = λ answers.
          started_runs f.machines f.machines.tally next_answer rests f.most f.start f.turns
          (λ k l q a. next_fits k l q a) f.guest_at f.classes_at answers
          (round_of f.machines next_answer rests (λ n. f.start + 2 * f.most)
          (λ k l q a. next_fits k l q a) f.guest_at f.classes_at answers f.begins);
      counts = λ i m answers.
          started_counts f.machines next_answer rests f.most f.start f.turns
          (λ k l q a. next_fits k l q a) f.guest_at f.classes_at answers
          (round_of f.machines next_answer rests (λ n. f.start + 2 * f.most)
          (λ k l q a. next_fits k l q a) f.guest_at f.classes_at answers f.begins) i m;
    }
