use Rattle.std.proofs.Common.{◌≡◌, ◌∙◌, take}
use Rattle.std.proofs.lemmas.List.{get_or_default}
use Rattle.unix_files.specs.Stored.{chain_at, empty_chain}
use Rattle.unix_files.proofs.LaidLemmas.{IsLaid-set, stored-set, file-within, file-size}
use Rattle.unix_files.proofs.store.Store.cut.Goals as goal
use Rattle.unix_files.proofs.store.Store.cut.Goals.{After-index_mut}

here : (c : After-index_mut) → c.index_mut.result.now ≡ chain_at c.self.inside.chains.items c.args.n
here c =
    let s = c.self.inside in
    c.index_mut.ensures.value ∙ get_or_default s.chains.items c.args.n c.index_mut.result.now empty_chain (file-within s.pool s.chains.items c.args.self.now c.self.view_is c.args.n c.requires.file)

pub shorten-requires-clause-fewer : goal.shorten-requires-clause-fewer
shorten-requires-clause-fewer c =
    let size = file-size c.self.inside.pool c.self.inside.chains.items c.args.self.now c.self.view_is c.args.n in
    rw (here c) (rw (← size) c.requires.within)

pub invariant_of-self : goal.invariant_of-self
invariant_of-self c =
    let s = c.self.inside in
    IsLaid-set s.pool c.shorten.new.pool s.chains.items c.args.n c.shorten.new.chain (file-within s.pool s.chains.items c.args.self.now c.self.view_is c.args.n c.requires.file) c.self.invariant (rw (here (goal.at.invariant_of-self c).After-index_mut) at c.shorten.ensures.changes)

pub returns : goal.returns
returns c =
    let s = c.self.inside in
    stored-set s.pool s.chains.items c.args.self.now c.self.view_is c.shorten.new.pool c.args.n c.shorten.new.chain (take c.args.size) c.self.invariant (rw (here (goal.at.returns c).After-index_mut) at c.shorten.ensures.changes) (rw (here (goal.at.returns c).After-index_mut) at c.shorten.ensures.bytes)
