use Rattle.unix_pipe_laws.proofs.Following.{all-there}
use Rattle.unix_pipe_laws.proofs.laws.turns_do_not_matter.Goals as goal

pub returns : goal.returns
returns g c p turns fresh none all i within = all-there p fresh turns none all i within
