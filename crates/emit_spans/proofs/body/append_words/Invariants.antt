use Rattle.emit_spans.specs.Pieces.{flagged}
use Rattle.emit_spans.specs.Bodies.{IsBody}
use Rattle.emit_spans.proofs.body.append_words.Given as goal

abbrev pub invariant-loop-k : goal.invariant-loop-k
invariant-loop-k l = IsBody l.units (flagged l.leads) l.span l.k l.body
