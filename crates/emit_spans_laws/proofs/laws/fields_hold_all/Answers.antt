use Rattle.emit_spans_laws.proofs.SpanCodeLaws.Guest.{held-again}
use Rattle.emit_spans_laws.proofs.laws.fields_hold_all.Goals as goal

pub returns : goal.returns
returns c w v t fields heap h = held-again w v t fields heap h
