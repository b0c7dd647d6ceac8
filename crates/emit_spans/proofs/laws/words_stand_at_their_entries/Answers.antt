use Rattle.emit_spans.proofs.StandingLemmas.{word-stands}
use Rattle.emit_spans.proofs.laws.words_stand_at_their_entries.Goals as goal

pub returns : goal.returns
returns c units leads span k from within = word-stands units leads span k from within
