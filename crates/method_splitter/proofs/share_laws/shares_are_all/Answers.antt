use Rattle.method_splitter.proofs.ShareLemmas.{all_shares}
use Rattle.method_splitter.proofs.share_laws.shares_are_all.Goals as goal

pub returns : goal.returns
returns c = all_shares
