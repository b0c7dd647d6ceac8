use Rattle.emit_limits.proofs.SpanSizes.{span-fits}
use Rattle.emit_limits.proofs.size_laws.spans_keep_to_their_bytes.Goals as goal

pub returns : goal.returns
returns c units leads span = span-fits units leads span
