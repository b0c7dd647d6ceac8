use Rattle.unix_pipe_laws.proofs.Following.{front-of-all}
use Rattle.unix_pipe_laws.proofs.laws.outputs_are_front_parts.Goals as goal

pub returns : goal.returns
returns g c p turns fresh none i = front-of-all p fresh turns none i
