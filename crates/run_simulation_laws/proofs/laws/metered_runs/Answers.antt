use Rattle.run_definition.specs.Answer.{next_answer}
use Rattle.run_simulation_laws.proofs.Metering.{metered_run, metered_classes}
use Rattle.run_simulation_laws.proofs.laws.metered_runs.Goals as goal

pub returns : goal.returns
returns g c turn spent = record {
  guest = λ n m x answers less. metered_run turn spent next_answer n m x answers less;
  classes = λ classes allowed n m x j answers same room.
      metered_classes turn spent next_answer classes allowed n m x j answers same room;
}
