use Rattle.run_simulation_laws.proofs.Metering.{metered_run, metered_classes}
use Rattle.run_simulation_laws.proofs.metered_laws.metered_runs_told.Goals as goal

pub returns : goal.returns
returns g c turn spent =
    let reply = g.V.Server.reply in
    record {
      guest = λ n m x k less. metered_run turn spent reply n m x k less;
      classes = λ classes allowed n m x j k same room.
          metered_classes turn spent reply classes allowed n m x j k same room;
    }
