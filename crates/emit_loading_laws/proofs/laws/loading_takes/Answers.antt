use Rattle.emit_loading_laws.proofs.LoadingCodeLaws.Bounds.{turns-few}
use Rattle.emit_loading_laws.proofs.laws.loading_takes.Goals as goal

pub returns : goal.returns
returns c = turns-few
