use Rattle.emit_program_laws.proofs.TranslationRuns.Given.{LoadingLaws}
use Rattle.emit_program_laws.proofs.TranslationRuns.Running.{counts-reads, counts-chars, counts-switches, counts-entries}
use Rattle.emit_program_laws.proofs.laws.translated_programs_count_alike.Goals as goal

pub returns : goal.returns
returns c t is =
    let laws : LoadingLaws = record {
      loads = c.programs_load.ensures;
      chooses = c.begun_programs_choose.ensures;
      numbered = c.spans_are_numbered.ensures;
      looks = c.weights.ensures.targets;
    } in
    let turns = c.turns_are_followed.ensures in
    record {
      reads_few = counts-reads laws turns t is;
      no_chars = counts-chars laws turns t is;
      switches_few = counts-switches laws turns t is;
      entries_few = counts-entries laws turns t is;
    }
