use Rattle.emit_program_laws.proofs.TurnLaws.Given.{ProgramLaws, SpanLaws, UnitLaws}
use Rattle.emit_program_laws.proofs.TurnLaws.Law.{turns-followed}
use Rattle.emit_program_laws.proofs.turn_laws.turns_are_followed.Goals as goal

pub returns : goal.returns
returns g program words order choose missing classes code marked is_in marks =
    let unit_laws : UnitLaws = record {
      counted = g.units_are_counted.ensures;
      reads = g.units_make_steps.ensures.reads;
      crossings = g.units_make_steps.ensures.crossings;
      slots = g.units_make_steps.ensures.slots;
      words = g.pcs_are_words.ensures;
      made = g.unit_is_its_steps.ensures.turns;
      leads = g.unit_leads_on.ensures;
    } in
    let laws : SpanLaws = record {
      in_pieces = g.units_stand_in_pieces.ensures;
      alone = g.words_alone_are_followed.ensures.plain;
      enters = g.pieces_are_entered.ensures.comes;
      enters_spared = g.pieces_are_entered.ensures.spared;
      inner = g.units_in_pieces_are_followed.ensures;
      last = g.last_units_in_pieces_are_followed.ensures;
    } in
    let program_laws : ProgramLaws = record {
      stand = g.classes_stand.ensures;
      lie = g.spans_lie_in_classes.ensures;
      numbered = g.spans_are_numbered.ensures;
      apart = g.spans_are_apart.ensures;
      lead = g.choosers_lead_to_words.ensures;
      stray_end = g.strays_end.ensures.plain;
      stray = g.guests_fault_outside_code.ensures;
      come_back = g.spans_come_back.ensures;
    } in
    turns-followed unit_laws laws program_laws program words order choose missing classes code is_in marked marks
