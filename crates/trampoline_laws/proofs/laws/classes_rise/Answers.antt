use Rattle.trampoline_laws.proofs.TrampolineLaws.Programs.{rise, some}
use Rattle.trampoline_laws.proofs.laws.classes_rise.Goals as goal

pub returns : goal.returns
returns c metered program order choose missing classes code t = record {
  rise = rise program order choose missing classes code t;
  some = some program order choose missing classes code t;
}
