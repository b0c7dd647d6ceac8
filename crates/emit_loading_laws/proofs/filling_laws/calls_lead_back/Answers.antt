use Rattle.emit_loading_laws.proofs.FillingLaws.Calling.{call-leads}
use Rattle.emit_loading_laws.proofs.filling_laws.calls_lead_back.Goals as goal

pub returns : goal.returns
returns c = call-leads
