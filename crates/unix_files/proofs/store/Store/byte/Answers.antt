use Rattle.std.proofs.Common.{◌≡◌, ◌<◌, ◌/◌, sym, ◌∙◌}
use Rattle.std.proofs.lemmas.List.{get_or_default}
use Rattle.unix_files.specs.Stored.{blocks_in, chain_at, empty_chain}
use Rattle.unix_files.proofs.LaidLemmas.{IsLaid-looked_up, contents-looked_up, file-within, file-block, file-byte}
use Rattle.unix_files.proofs.store.Store.byte.Goals as goal
use Rattle.unix_files.proofs.store.Store.byte.Goals.{After-index_mut-chain}

here : (c : After-index_mut-chain) → c.index_mut-chain.result.now ≡ chain_at c.self.inside.chains.items c.args.n
here c =
    let s = c.self.inside in
    c.index_mut-chain.ensures.value ∙ get_or_default s.chains.items c.args.n c.index_mut-chain.result.now empty_chain (file-within s.pool s.chains.items c.args.self.now c.self.view_is c.args.n c.requires.file)

-- the byte stands in a block of the file's chain
block-within : (c : After-index_mut-chain) → c.args.at / 4096 < blocks_in (chain_at c.self.inside.chains.items c.args.n)
block-within c = file-block c.self.inside.pool c.self.inside.chains.items c.args.self.now c.self.view_is c.args.n c.args.at c.requires.within

pub look_up-requires-clause-within : goal.look_up-requires-clause-within
look_up-requires-clause-within c =
    let w = (goal.at.look_up-requires-clause-within c).After-index_mut-chain in
    rw (here w) (block-within w)

pub read-requires-clause-used : goal.read-requires-clause-used
read-requires-clause-used c =
    let s = c.self.inside in
    let w = (goal.at.read-requires-clause-used c).After-index_mut-chain in
    rw (c.look_up.ensures, here w) ((c.self.invariant.whole c.args.n).used (c.args.at / 4096) (block-within w))

pub invariant_of-self : goal.invariant_of-self
invariant_of-self c =
    let s = c.self.inside in
    let w = (goal.at.invariant_of-self c).After-index_mut-chain in
    rw (c.look_up.ensures, here w) (IsLaid-looked_up s.pool s.chains.items c.args.n (c.args.at / 4096) (file-within s.pool s.chains.items c.args.self.now c.self.view_is c.args.n c.requires.file) c.self.invariant (block-within w))

pub returns-clause-value : goal.returns-clause-value
returns-clause-value c =
    let s = c.self.inside in
    let w = (goal.at.returns-clause-value c).After-index_mut-chain in
    rw (c.read.ensures, c.look_up.ensures, here w) (sym (file-byte s.pool s.chains.items c.args.self.now c.self.view_is c.args.n c.args.at c.requires.within))

pub returns-clause-same : goal.returns-clause-same
returns-clause-same c =
    let s = c.self.inside in
    let w = (goal.at.returns-clause-same c).After-index_mut-chain in
    rw (c.look_up.ensures, here w) (contents-looked_up s.pool s.chains.items c.args.n (c.args.at / 4096) ∙ c.self.view_is)
