use Rattle.delay_slots.specs.Turns.{unit_turns}
use Rattle.delay_slots.proofs.RunLemmas.{runs_made}
use Rattle.delay_slots.proofs.laws.unit_runs_over_systems.Goals as goal

pub returns : goal.returns
returns g c x first words i unit stands there =
    runs_made g.V.Server.reply x (unit_turns unit x) (c.unit_is_its_steps.ensures.turns x first words i unit stands there)
