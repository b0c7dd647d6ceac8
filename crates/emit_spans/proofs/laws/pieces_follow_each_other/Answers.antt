use Rattle.emit_spans.proofs.PieceLemmas.{piece-followed}
use Rattle.emit_spans.proofs.laws.pieces_follow_each_other.Goals as goal

pub returns : goal.returns
returns c units leads start span k same begins within more = piece-followed units leads start span k same begins within more
