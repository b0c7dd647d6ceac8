use Rattle.run_definition.specs.Answer.{next_answer}
use Rattle.run_simulation_laws.proofs.Answering.{next_fits}
use Rattle.emit_program_laws.proofs.TranslationRuns.Given.{LoadingLaws}
use Rattle.emit_calls_laws.proofs.Programs.{entered-hold, programs-hold}
use Rattle.emit_calls_laws.proofs.laws.programs_hold_at_calls.Goals as goal

pub returns-clause-answered : goal.returns-clause-answered
returns-clause-answered g c =
    let laws : LoadingLaws = record {
      loads = c.programs_load.ensures;
      chooses = c.begun_programs_choose.ensures;
      numbered = c.spans_are_numbered.ensures;
      looks = c.weights.ensures.targets;
    } in
    programs-hold next_answer (λ k l q a. next_fits k l q a) c.turns_are_followed.ensures c.turns_hold_at_calls.ensures laws

pub returns-clause-served : goal.returns-clause-served
returns-clause-served g c =
    let laws : LoadingLaws = record {
      loads = c.programs_load.ensures;
      chooses = c.begun_programs_choose.ensures;
      numbered = c.spans_are_numbered.ensures;
      looks = c.weights.ensures.targets;
    } in
    programs-hold g.V.Server.reply c.requires.fitting c.turns_are_followed.ensures c.turns_hold_at_calls.ensures laws

pub returns-clause-answered_entered : goal.returns-clause-answered_entered
returns-clause-answered_entered g c =
    entered-hold next_answer (λ k l q a. next_fits k l q a) c.turns_are_followed.ensures c.turns_hold_at_calls.ensures

pub returns-clause-served_entered : goal.returns-clause-served_entered
returns-clause-served_entered g c =
    entered-hold g.V.Server.reply c.requires.fitting c.turns_are_followed.ensures c.turns_hold_at_calls.ensures
