use Rattle.run_definition.specs.Answer.{next_answer}
use Rattle.run_simulation_laws.proofs.Answering.{next_fits}
use Rattle.emit_metered_laws.proofs.Slices.Adding.{slices-add-up}
use Rattle.emit_metered_laws.proofs.Slices.Beginning.{first-runs-are-slices, slices-add-up-from-start}
use Rattle.emit_metered_laws.proofs.Slices.Slicing.{spent-meters-go-on}
use Rattle.emit_metered_laws.proofs.slice_laws.slices_add_up.Goals as goal

pub returns-clause-answered : goal.returns-clause-answered
returns-clause-answered g c =
    slices-add-up next_answer
    (spent-meters-go-on c.meters_are_paid_or_spent.ensures next_answer (λ k l q a. next_fits k l q a))

pub returns-clause-served : goal.returns-clause-served
returns-clause-served g c =
    slices-add-up g.V.Server.reply
    (spent-meters-go-on c.meters_are_paid_or_spent.ensures g.V.Server.reply c.requires.fitting)

pub returns-clause-answered_from_start : goal.returns-clause-answered_from_start
returns-clause-answered_from_start g c =
    slices-add-up-from-start next_answer
    (spent-meters-go-on c.meters_are_paid_or_spent.ensures next_answer (λ k l q a. next_fits k l q a))
    (first-runs-are-slices c.meters_are_paid_or_spent.ensures c.metered_programs_follow.ensures next_answer (λ k l q a. next_fits k l q a))

pub returns-clause-served_from_start : goal.returns-clause-served_from_start
returns-clause-served_from_start g c =
    slices-add-up-from-start g.V.Server.reply
    (spent-meters-go-on c.meters_are_paid_or_spent.ensures g.V.Server.reply c.requires.fitting)
    (first-runs-are-slices c.meters_are_paid_or_spent.ensures c.metered_programs_follow.ensures g.V.Server.reply c.requires.fitting)
