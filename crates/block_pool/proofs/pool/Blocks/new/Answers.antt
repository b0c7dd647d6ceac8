use Rattle.block_pool.proofs.KeptLemmas.{IsKept-new}
use Rattle.block_pool.proofs.pool.Blocks.new.Goals as goal

pub invariant_of-result : goal.invariant_of-result
invariant_of-result c =
    rw (c.in_ok-slots.ensures.items, c.in_ok-given.ensures.items, c.in_ok-slots.ensures.exact, c.in_ok-given.ensures.exact) (IsKept-new c.args.n c.requires)

pub returns-clause-sound : goal.returns-clause-sound
returns-clause-sound c =
    rw (c.in_ok-slots.ensures.items, c.in_ok-given.ensures.items) (IsKept-new c.args.n c.requires).sound
