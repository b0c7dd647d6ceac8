use Rattle.emit_calls_laws.proofs.Setting.{hosts-set}
use Rattle.emit_calls_laws.proofs.laws.hosts_set_states.Goals as goal

pub returns : goal.returns
returns c = hosts-set
