use Rattle.emit_spans.proofs.KeepLemmas.{code-placed}
use Rattle.emit_spans.proofs.laws.no_switch_needs_padding.Goals as goal

pub returns : goal.returns
returns c units leads span = code-placed units leads span
