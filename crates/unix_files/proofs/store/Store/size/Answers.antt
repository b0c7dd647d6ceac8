use Rattle.std.proofs.Common.{sym, ap, ◌∙◌}
use Rattle.unix_files.proofs.LaidLemmas.{file-size}
use Rattle.unix_files.proofs.store.Store.size.Goals as goal

pub returns : goal.returns
returns c = ap (λ x. x.size) c.chain_of.ensures ∙ sym (file-size c.self.inside.pool c.self.inside.chains.items c.args.self.now c.self.view_is c.args.n)
