use Rattle.run_definition.specs.Answer.{next_answer}
use Rattle.run_simulation_laws.proofs.Answering.{next_fits}
use Rattle.emit_metered_laws.proofs.Slices.Beginning.{first-runs-are-slices}
use Rattle.emit_metered_laws.proofs.slice_laws.first_runs_are_slices.Goals as goal

pub returns-clause-answered : goal.returns-clause-answered
returns-clause-answered g c =
    first-runs-are-slices c.meters_are_paid_or_spent.ensures c.metered_programs_follow.ensures next_answer (λ k l q a. next_fits k l q a)

pub returns-clause-served : goal.returns-clause-served
returns-clause-served g c =
    first-runs-are-slices c.meters_are_paid_or_spent.ensures c.metered_programs_follow.ensures g.V.Server.reply c.requires.fitting
