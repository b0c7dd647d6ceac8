use Rattle.emit_program_laws.proofs.TranslationRuns.Given.{LoadingLaws}
use Rattle.emit_program_laws.proofs.TranslationRuns.Running.{comes-to-marks}
use Rattle.emit_program_laws.proofs.laws.translated_programs_come_to_marks.Goals as goal

pub returns : goal.returns
returns c t extra marked is within marks n answers one goes is_marked =
    let laws : LoadingLaws = record {
      loads = c.programs_load.ensures;
      chooses = c.begun_programs_choose.ensures;
      numbered = c.spans_are_numbered.ensures;
      looks = c.weights.ensures.targets;
    } in
    comes-to-marks laws c.turns_are_followed.ensures t is c.marks_are_reached.ensures marked marks extra within n answers one goes is_marked
