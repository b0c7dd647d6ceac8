use Rattle.emit_program_laws.proofs.TurnLaws.Given.{ProgramLaws}
use Rattle.emit_program_laws.proofs.TurnLaws.Marks.{marks-reached}
use Rattle.emit_program_laws.proofs.turn_laws.marks_are_reached.Goals as goal

pub returns : goal.returns
returns g program words order choose missing classes code marked is_in marks =
    let program_laws : ProgramLaws = record {
      stand = g.classes_stand.ensures;
      lie = g.spans_lie_in_classes.ensures;
      numbered = g.spans_are_numbered.ensures;
      apart = g.spans_are_apart.ensures;
      lead = g.choosers_lead_to_words.ensures;
      stray_end = g.strays_end.ensures.plain;
      stray = g.guests_fault_outside_code.ensures;
      come_back = g.spans_come_back.ensures;
    } in
    marks-reached g.units_stand_in_pieces.ensures program_laws program words order choose missing classes code is_in marked marks
