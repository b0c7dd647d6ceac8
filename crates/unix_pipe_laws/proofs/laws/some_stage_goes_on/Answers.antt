use Rattle.unix_pipe_laws.proofs.Progress.{some-turns}
use Rattle.unix_pipe_laws.proofs.laws.some_stage_goes_on.Goals as goal

pub returns : goal.returns
returns g c = some-turns
