use Rattle.nested_cli.proofs.RefusalLemmas.{refusals-leave}
use Rattle.nested_cli.proofs.laws.refusals_leave_all.Goals as goal

pub returns : goal.returns
returns c = refusals-leave
