use Rattle.emit_program_laws.proofs.TurnLaws.Given.{ProgramLaws}
use Rattle.emit_metered_laws.proofs.MeteredPrograms.Given.{BetweenLaws, WordLaws}
use Rattle.emit_calls_laws.proofs.MeteredWords.{UnitLaws, calls-held}
use Rattle.emit_calls_laws.proofs.turn_laws.metered_turns_hold_at_calls.Goals as goal

pub returns : goal.returns
returns g program words order choose missing classes code is_in s y rests =
    let unit_laws : UnitLaws = record {
      hold = g.units_hold_at_calls.ensures;
      write = g.code_writes_the_layout.ensures.units;
      counts = g.unit_is_its_steps.ensures.count;
      words = g.pcs_are_words.ensures;
      made = g.unit_is_its_steps.ensures.turns;
      leads = g.unit_leads_on.ensures;
    } in
    let laws : WordLaws = record {
      paid = g.guards_take_turns_off.ensures.enough;
      kept = g.guards_take_turns_off.ensures.kept;
      unpaid = g.guards_take_turns_off.ensures.stops;
      paths = g.code_is_a_path.ensures.within;
      fronts = g.words_alone_are_followed.ensures.behind_fronts;
      behind = g.spans_leave_other_fields.ensures.behind_fronts;
    } in
    let program_laws : ProgramLaws = record {
      stand = g.classes_stand.ensures;
      lie = g.spans_lie_in_classes.ensures;
      numbered = g.spans_are_numbered.ensures;
      apart = g.spans_are_apart.ensures;
      lead = g.choosers_lead_to_words.ensures;
      stray_end = g.strays_end.ensures.plain;
      stray = g.guests_fault_outside_code.ensures;
      come_back = g.spans_come_back.ensures;
    } in
    let between : BetweenLaws = record {
      program = program_laws;
      stray_paid = g.strays_end.ensures.metered;
      stray_unpaid = g.strays_end.ensures.spent;
      held = g.fields_hold_all.ensures;
      fields = g.fields_are_left.ensures;
    } in
    calls-held unit_laws laws between program words order choose missing classes code is_in s y rests
