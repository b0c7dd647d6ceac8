use Rattle.trampoline_laws.proofs.TrampolineLaws.Programs.{word-chosen, word-reached}
use Rattle.trampoline_laws.proofs.laws.words_are_chosen.Goals as goal

pub returns : goal.returns
returns c metered program order choose missing classes code t n a k at below = record {
  reached = word-reached program order choose missing classes code t n a k at below;
  own = word-chosen program order choose missing classes code t n a k at below;
}
