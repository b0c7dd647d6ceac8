use Rattle.unix_pipe_laws.proofs.Following.{front-over-pieces}
use Rattle.unix_pipe_laws.proofs.laws.outputs_are_front_parts_over_pieces.Goals as goal

pub returns : goal.returns
returns g c p turns fresh = front-over-pieces p fresh turns
