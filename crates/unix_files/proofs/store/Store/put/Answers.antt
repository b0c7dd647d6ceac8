use Rattle.std.proofs.Common.{◌≡◌, ◌∙◌, ap}
use Rattle.std.proofs.lemmas.List.{get_or_default}
use Rattle.block_pool.specs.Blocks.{free_count}
use Rattle.unix_files.specs.Stored.{chain_at, empty_chain, overwritten}
use Rattle.unix_files.proofs.LaidLemmas.{IsLaid-set, stored-set, file-within, file-size}
use Rattle.unix_files.proofs.store.Store.put.Goals as goal
use Rattle.unix_files.proofs.store.Store.put.Goals.{After-index_mut}

here : (c : After-index_mut) → c.index_mut.result.now ≡ chain_at c.self.inside.chains.items c.args.n
here c =
    let s = c.self.inside in
    c.index_mut.ensures.value ∙ get_or_default s.chains.items c.args.n c.index_mut.result.now empty_chain (file-within s.pool s.chains.items c.args.self.now c.self.view_is c.args.n c.requires.file)

pub write-requires-clause-within : goal.write-requires-clause-within
write-requires-clause-within c =
    let size = file-size c.self.inside.pool c.self.inside.chains.items c.args.self.now c.self.view_is c.args.n in
    rw (here c) (rw (← size) c.requires.within)

pub write-requires-clause-room : goal.write-requires-clause-room
write-requires-clause-room c =
    let size = file-size c.self.inside.pool c.self.inside.chains.items c.args.self.now c.self.view_is c.args.n in
    let free : free_count c.self.inside.pool ≡ c.args.self.now.free = ap (λ x. x.free) c.self.view_is in
    rw (here c, ← size, free) c.requires.room

pub invariant_of-self : goal.invariant_of-self
invariant_of-self c =
    let s = c.self.inside in
    IsLaid-set s.pool c.write.new.pool s.chains.items c.args.n c.write.new.chain (file-within s.pool s.chains.items c.args.self.now c.self.view_is c.args.n c.requires.file) c.self.invariant (rw (here (goal.at.invariant_of-self c).After-index_mut) at c.write.ensures.changes)

pub returns : goal.returns
returns c =
    let s = c.self.inside in
    stored-set s.pool s.chains.items c.args.self.now c.self.view_is c.write.new.pool c.args.n c.write.new.chain (λ l. overwritten l c.args.at c.args.bytes.now) c.self.invariant (rw (here (goal.at.returns c).After-index_mut) at c.write.ensures.changes) (rw (here (goal.at.returns c).After-index_mut) at c.write.ensures.bytes)
