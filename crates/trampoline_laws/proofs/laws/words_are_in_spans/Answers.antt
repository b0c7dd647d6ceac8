use Rattle.trampoline_laws.proofs.TrampolineLaws.Words.{word-found}
use Rattle.trampoline_laws.proofs.laws.words_are_in_spans.Goals as goal

pub returns : goal.returns
returns c a k is below = word-found a is k below
