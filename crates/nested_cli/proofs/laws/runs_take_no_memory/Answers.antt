use Rattle.nested_cli.proofs.MemoryLemmas.{no-memory-in-runs}
use Rattle.nested_cli.proofs.laws.runs_take_no_memory.Goals as goal

pub returns : goal.returns
returns c = no-memory-in-runs
