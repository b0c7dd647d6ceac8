use Rattle.emit_spans.proofs.KeepLemmas.{parts-keep}
use Rattle.emit_spans.proofs.laws.words_keep_to_their_span.Goals as goal

pub returns : goal.returns
returns c units leads span = parts-keep units leads span
