use Rattle.emit_spans_laws.proofs.SpanCodeLaws.Guest.{return-turn}
use Rattle.emit_spans_laws.proofs.laws.returns_give_back.Goals as goal

pub returns : goal.returns
returns c site at w lies = return-turn site at w lies
