use Rattle.run_definition.specs.Answer.{next_answer}
use Rattle.run_simulation_laws.proofs.Answering.{next_fits}
use Rattle.emit_calls_laws.proofs.Programs.{entered-meters-hold, metered-programs-hold}
use Rattle.emit_calls_laws.proofs.laws.metered_programs_hold_at_calls.Goals as goal

pub returns-clause-answered : goal.returns-clause-answered
returns-clause-answered g c =
    metered-programs-hold next_answer (λ k l q a. next_fits k l q a) c.metered_turns_hold_at_calls.ensures c.metered_programs_follow.ensures

pub returns-clause-served : goal.returns-clause-served
returns-clause-served g c =
    metered-programs-hold g.V.Server.reply c.requires.fitting c.metered_turns_hold_at_calls.ensures c.metered_programs_follow.ensures

pub returns-clause-answered_entered : goal.returns-clause-answered_entered
returns-clause-answered_entered g c =
    entered-meters-hold next_answer (λ k l q a. next_fits k l q a) c.metered_turns_hold_at_calls.ensures c.metered_turns_are_followed.ensures

pub returns-clause-served_entered : goal.returns-clause-served_entered
returns-clause-served_entered g c =
    entered-meters-hold g.V.Server.reply c.requires.fitting c.metered_turns_hold_at_calls.ensures c.metered_turns_are_followed.ensures
