use Rattle.emit_metered_laws.proofs.MeteredPrograms.Turning.{metered-turns-followed}
use Rattle.emit_metered_laws.proofs.turn_laws.metered_turns_are_followed.Goals as goal

pub returns : goal.returns
returns g program words order choose missing classes code is_in =
    metered-turns-followed g.meters_are_paid_or_spent.ensures program words order choose missing classes code is_in
