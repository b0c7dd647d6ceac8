use Rattle.emit_spans_laws.proofs.SpanCodeLaws.Counting.{stretch-from, stretch-to}
use Rattle.emit_spans_laws.proofs.laws.stretches_are_of_pieces.Goals as goal

pub returns : goal.returns
returns c units leads span k begin =
    record { from_is = stretch-from units leads span k begin; to_is = stretch-to units leads span k begin }
