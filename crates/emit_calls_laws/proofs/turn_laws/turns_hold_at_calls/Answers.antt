use Rattle.emit_program_laws.proofs.TurnLaws.Given.{ProgramLaws}
use Rattle.emit_calls_laws.proofs.Words.{SpanLaws, UnitLaws, calls-held}
use Rattle.emit_calls_laws.proofs.turn_laws.turns_hold_at_calls.Goals as goal

pub returns : goal.returns
returns g program words order choose missing classes code is_in t y rests =
    let unit_laws : UnitLaws = record {
      hold = g.units_hold_at_calls.ensures;
      made = g.unit_is_its_steps.ensures.turns;
      leads = g.unit_leads_on.ensures;
      words = g.pcs_are_words.ensures;
    } in
    let laws : SpanLaws = record {
      units = g.units_are_followed.ensures;
      alone = g.words_alone_are_followed.ensures.plain;
      enters = g.pieces_are_entered.ensures.comes;
      in_pieces = g.units_stand_in_pieces.ensures;
      inner = g.units_in_pieces_are_followed.ensures;
      last = g.last_units_in_pieces_are_followed.ensures;
    } in
    let program_laws : ProgramLaws = record {
      stand = g.classes_stand.ensures;
      lie = g.spans_lie_in_classes.ensures;
      numbered = g.spans_are_numbered.ensures;
      apart = g.spans_are_apart.ensures;
      lead = g.choosers_lead_to_words.ensures;
      stray_end = g.strays_end.ensures.plain;
      stray = g.guests_fault_outside_code.ensures;
      come_back = g.spans_come_back.ensures;
    } in
    calls-held unit_laws laws program_laws program words order choose missing classes code is_in t y rests
