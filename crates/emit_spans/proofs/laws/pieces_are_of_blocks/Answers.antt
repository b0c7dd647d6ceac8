use Rattle.emit_spans.proofs.PieceLemmas.{piece-is-piece}
use Rattle.emit_spans.proofs.laws.pieces_are_of_blocks.Goals as goal

pub returns : goal.returns
returns c units leads span k known begins within = piece-is-piece units leads span k known begins within
