use Rattle.std.proofs.Common.{arith}
use Rattle.block_pool.proofs.KeptLemmas.{count-given, IsKept-given, given_room, blocks_of-set, used_slot}
use Rattle.block_pool.proofs.pool.Blocks.give.Goals as goal

pub push_reserved-requires : goal.push_reserved-requires
push_reserved-requires c =
    let s = c.self.inside in
    let room = given_room s.slots.items s.given.items s.size _ _ c.args.b (rw (← c.self.view_is) at c.requires) c.self.invariant in
    omega (arith, c.self.invariant.given_fit)

pub invariant_of-self : goal.invariant_of-self
invariant_of-self c =
    let s = c.self.inside in
    rw (c.push_reserved.ensures.items, c.push_reserved.ensures.capacity)
    (IsKept-given s.slots.items s.given.items s.size _ _ c.args.b (rw (← c.self.view_is) at c.requires) c.self.invariant)

pub returns-clause-freed : goal.returns-clause-freed
returns-clause-freed c =
    let s = c.self.inside in
    rw (← c.self.view_is)
    (blocks_of-set s.slots.items s.size c.args.b _ (used_slot s.slots.items s.size c.args.b (rw (← c.self.view_is) at c.requires)))

pub returns-clause-sound : goal.returns-clause-sound
returns-clause-sound c =
    let s = c.self.inside in
    rw c.push_reserved.ensures.items
    (IsKept-given s.slots.items s.given.items s.size _ _ c.args.b (rw (← c.self.view_is) at c.requires) c.self.invariant).sound

pub returns-clause-count : goal.returns-clause-count
returns-clause-count c =
    let s = c.self.inside in
    rw (← c.self.view_is)
    (count-given s.slots.items s.given.items s.size _ _ c.args.b (rw (← c.self.view_is) at c.requires) c.self.invariant)
