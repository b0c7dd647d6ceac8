use Rattle.stackmap_prune.proofs.PrunedLaws.{listing-framed}
use Rattle.stackmap_prune.proofs.laws.pruned_code_is_framed.Goals as goal

pub returns : goal.returns
returns c = λ program after method pruned settled least laid is effects listed listing. listing-framed program after method pruned settled least laid is effects listed listing
