use Rattle.jvm_run_laws.proofs.Starts.{heaps-left}
use Rattle.jvm_run_laws.proofs.laws.runs_leave_heaps.Goals as goal

pub returns : goal.returns
returns g c = heaps-left g.V.Server.reply c.requires.fitting
