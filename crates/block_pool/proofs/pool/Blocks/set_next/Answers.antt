use Rattle.block_pool.proofs.KeptLemmas.{count-put, IsKept-put, slot_size, pool_of-put_next}
use Rattle.block_pool.proofs.pool.Blocks.set_next.Goals as goal

pub invariant_of-self : goal.invariant_of-self
invariant_of-self c =
    let s = c.self.inside in
    let used = rw (← c.self.view_is) at c.requires in
    let size = slot_size s.slots.items s.given.items s.size _ _ c.args.b c.in-Some.block used (rw c.in-Some.is at c.index_mut.ensures.value) c.self.invariant in
    IsKept-put s.slots.items s.given.items s.size _ _ c.args.b _ size used c.self.invariant

pub returns-clause-changed : goal.returns-clause-changed
returns-clause-changed c =
    let s = c.self.inside in
    rw (← c.self.view_is)
    (pool_of-put_next s.slots.items s.given.items s.size c.args.b c.in-Some.block c.args.to (rw (← c.self.view_is) at c.requires) (rw c.in-Some.is at c.index_mut.ensures.value))

pub returns-clause-sound : goal.returns-clause-sound
returns-clause-sound c =
    let s = c.self.inside in
    let used = rw (← c.self.view_is) at c.requires in
    let size = slot_size s.slots.items s.given.items s.size _ _ c.args.b c.in-Some.block used (rw c.in-Some.is at c.index_mut.ensures.value) c.self.invariant in
    (IsKept-put s.slots.items s.given.items s.size _ _ c.args.b _ size used c.self.invariant).sound

pub returns-clause-count : goal.returns-clause-count
returns-clause-count c =
    let s = c.self.inside in
    let used = rw (← c.self.view_is) at c.requires in
    let size = slot_size s.slots.items s.given.items s.size _ _ c.args.b c.in-Some.block used (rw c.in-Some.is at c.index_mut.ensures.value) c.self.invariant in
    rw (← c.self.view_is)
    (count-put s.slots.items s.given.items s.size _ _ c.args.b _ size used c.self.invariant)
