use Rattle.run_simulation_laws.proofs.Paying.{metered-start}
use Rattle.emit_metered_laws.specs.Running.{from_start}
use Rattle.emit_metered_laws.proofs.laws.metered_programs_run_over_systems.Goals as goal

pub returns : goal.returns
returns g c p most is within m k room =
    metered-start (from_start p most (c.metered_programs_follow.ensures p most is within)) g.V.Server.reply c.requires.fitting m k room
