use Rattle.unix_definition.specs.Unix.{reply}
use Rattle.class_definition.specs.Linking.{program_of}
use Rattle.nv_translate.proofs.EndedRuns.{back, forth, system_fits}
use Rattle.nv_translate.proofs.ended_translations.runs_end_alike.Goals as goal

pub returns : goal.returns
returns c source classes alike = record {
  forth = λ system words n room over. forth reply system_fits source (program_of classes) words system alike n room over;
  back = λ system words m room over. back reply system_fits source (program_of classes) words system alike m room over;
}
