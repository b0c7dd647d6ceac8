use Rattle.trampoline_laws.proofs.TrampolineLaws.Programs.{has-class, has-range}
use Rattle.trampoline_laws.proofs.laws.classes_stand.Goals as goal

pub returns : goal.returns
returns c metered program order choose missing classes code t n a at = record {
  has = has-class program order choose missing classes code t n a at;
  range = has-range program order choose missing classes code t n a at;
}
