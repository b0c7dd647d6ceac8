use Rattle.run_definition.specs.Answer.{next_answer}
use Rattle.run_simulation_laws.proofs.Answering.{next_fits}
use Rattle.run_simulation_laws.proofs.Paying.{metered-start}
use Rattle.emit_metered_laws.specs.Running.{from_start}
use Rattle.emit_metered_laws.proofs.laws.metered_programs_run.Goals as goal

pub returns : goal.returns
returns g p most is within m answers room =
    metered-start (from_start p most (g.metered_programs_follow.ensures p most is within)) next_answer (λ k l q a. next_fits k l q a) m answers room
