use Rattle.jvm_run_laws.proofs.Starts.{heaps-free}
use Rattle.jvm_run_laws.proofs.laws.left_heaps_are_free.Goals as goal

pub returns : goal.returns
returns c = heaps-free
