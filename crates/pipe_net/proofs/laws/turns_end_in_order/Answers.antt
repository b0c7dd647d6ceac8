use Rattle.pipe_net.proofs.LawLemmas.{end-in-order}
use Rattle.pipe_net.proofs.laws.turns_end_in_order.Goals as goal

pub returns : goal.returns
returns c = end-in-order
