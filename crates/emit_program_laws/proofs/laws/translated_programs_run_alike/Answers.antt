use Rattle.emit_program_laws.proofs.TranslationRuns.Given.{LoadingLaws}
use Rattle.emit_program_laws.proofs.TranslationRuns.Running.{runs-alike}
use Rattle.emit_program_laws.proofs.laws.translated_programs_run_alike.Goals as goal

pub returns : goal.returns
returns c t extra is within answers =
    let laws : LoadingLaws = record {
      loads = c.programs_load.ensures;
      chooses = c.begun_programs_choose.ensures;
      numbered = c.spans_are_numbered.ensures;
      looks = c.weights.ensures.targets;
    } in
    runs-alike laws c.turns_are_followed.ensures t is extra within answers
