use Rattle.run_definition.specs.Answer.{next_answer}
use Rattle.run_simulation_laws.proofs.Answering.{next_fits}
use Rattle.emit_metered_laws.proofs.Slices.Slicing.{spent-meters-go-on}
use Rattle.emit_metered_laws.proofs.slice_laws.spent_meters_go_on.Goals as goal

pub returns-clause-answered : goal.returns-clause-answered
returns-clause-answered g c =
    spent-meters-go-on c.meters_are_paid_or_spent.ensures next_answer (λ k l q a. next_fits k l q a)

pub returns-clause-served : goal.returns-clause-served
returns-clause-served g c =
    spent-meters-go-on c.meters_are_paid_or_spent.ensures g.V.Server.reply c.requires.fitting
