use Rattle.std.proofs.Common.{arith}
use Rattle.block_pool.proofs.KeptLemmas.{free_of, blocks_of}
use Rattle.block_pool.proofs.PoolLemmas.{used_and_free}
use Rattle.block_pool.proofs.pool.Blocks.free.Goals as goal

pub returns-clause-count : goal.returns-clause-count
returns-clause-count c =
    let s = c.self.inside in
    let kept = free_of s.slots.items s.given.items s.size _ _ c.self.invariant in
    rw (← c.self.view_is) (omega (arith, s.slots.ok.0, s.given.ok.0, c.self.invariant.within))

pub returns-clause-all : goal.returns-clause-all
returns-clause-all c =
    let s = c.self.inside in
    let kept = free_of s.slots.items s.given.items s.size _ _ c.self.invariant in
    rw (← c.self.view_is) (omega (arith, s.slots.ok.0, s.given.ok.0, c.self.invariant.within, used_and_free (blocks_of s.slots.items s.size)))
