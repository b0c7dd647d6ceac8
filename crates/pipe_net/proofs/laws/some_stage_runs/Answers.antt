use Rattle.pipe_net.proofs.LawLemmas.{stage-runs}
use Rattle.pipe_net.proofs.laws.some_stage_runs.Goals as goal

pub returns : goal.returns
returns c = stage-runs
