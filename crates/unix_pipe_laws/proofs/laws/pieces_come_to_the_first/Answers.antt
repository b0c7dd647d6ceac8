use Rattle.unix_pipe_laws.proofs.Following.{comes-in-pieces}
use Rattle.unix_pipe_laws.proofs.laws.pieces_come_to_the_first.Goals as goal

pub returns : goal.returns
returns g c p turns fresh all = comes-in-pieces p fresh turns all
