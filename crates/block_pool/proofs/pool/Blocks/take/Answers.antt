use Rattle.std.proofs.Common.{◌≡◌, ◌<◌, length, arith}
use Rattle.block_pool.proofs.KeptLemmas.{count-popped, count-pushed, IsKept-popped, IsKept-pushed, popped_slot, blocks_of-set, blocks_of-push, order-pushed}
use Rattle.block_pool.proofs.pool.Blocks.take.Goals as goal

pub index_mut-requires : goal.index_mut-requires
index_mut-requires c =
    let s = c.self.inside in
    let slot = popped_slot s.slots.items s.given.items _ s.size _ _ c.in-Some.b c.in-Some.ensures.items c.self.invariant in
    omega (arith, s.slots.ok.0)

pub invariant_of-self : goal.invariant_of-self
invariant_of-self c =
    let s = c.self.inside in
    rw c.pop.ensures.capacity
    (IsKept-popped s.slots.items s.given.items _ s.size _ _ c.in-Some.b _ c.zeroed.ensures.len c.in-Some.ensures.items c.self.invariant)

pub returns-in-Some-clause-zeroed : goal.returns-in-Some-clause-zeroed
returns-in-Some-clause-zeroed c =
    let s = c.self.inside in
    let slot = popped_slot s.slots.items s.given.items _ s.size _ _ c.in-Some.b c.in-Some.ensures.items c.self.invariant in
    rw (c.zeroed.ensures.value, ← c.self.view_is) (blocks_of-set s.slots.items s.size c.in-Some.b _ slot)

pub invariant_of-self-2 : goal.invariant_of-self-2
invariant_of-self-2 c =
    let s = c.self.inside in
    let none : length s.given.items ≡ 0 = omega (arith, s.given.ok.0, c.in_default.ensures.cases.0) in
    let room : length s.slots.items < s.size = omega (arith, s.slots.ok.0, c.self.invariant.within, c.if-b-self.false) in
    rw (c.push_reserved.ensures.items, c.push_reserved.ensures.capacity, c.pop.ensures.capacity)
    (IsKept-pushed s.slots.items s.given.items c.pop.new.self.items s.size _ _ _ c.zeroed-2.ensures.len c.in_default.ensures.items none room c.self.invariant)

pub returns-clause-first : goal.returns-clause-first
returns-clause-first c =
    let s = c.self.inside in
    let none : length s.given.items ≡ 0 = omega (arith, s.given.ok.0, c.in_default.ensures.cases.0) in
    let room : length s.slots.items < s.size = omega (arith, s.slots.ok.0, c.self.invariant.within, c.if-b-self.false) in
    let b : c.len-b.result ≡ length s.slots.items = omega (arith, s.slots.ok.0) in
    rw (← c.self.view_is, c.push_reserved.ensures.items, b)
    (order-pushed s.slots.items s.given.items c.pop.new.self.items s.size _ c.in_default.ensures.items none room)

pub returns-clause-zeroed : goal.returns-clause-zeroed
returns-clause-zeroed c =
    let s = c.self.inside in
    let room : length s.slots.items < s.size = omega (arith, s.slots.ok.0, c.self.invariant.within, c.if-b-self.false) in
    let b : c.len-b.result ≡ length s.slots.items = omega (arith, s.slots.ok.0) in
    rw (← c.self.view_is, c.push_reserved.ensures.items, c.zeroed-2.ensures.value, b)
    (blocks_of-push s.slots.items s.size _ room)

pub returns-in-Some-clause-sound : goal.returns-in-Some-clause-sound
returns-in-Some-clause-sound c =
    let s = c.self.inside in
    (IsKept-popped s.slots.items s.given.items _ s.size _ _ c.in-Some.b _ c.zeroed.ensures.len c.in-Some.ensures.items c.self.invariant).sound

pub returns-clause-sound : goal.returns-clause-sound
returns-clause-sound c =
    let s = c.self.inside in
    let none : length s.given.items ≡ 0 = omega (arith, s.given.ok.0, c.in_default.ensures.cases.0) in
    let room : length s.slots.items < s.size = omega (arith, s.slots.ok.0, c.self.invariant.within, c.if-b-self.false) in
    rw c.push_reserved.ensures.items
    (IsKept-pushed s.slots.items s.given.items c.pop.new.self.items s.size _ _ _ c.zeroed-2.ensures.len c.in_default.ensures.items none room c.self.invariant).sound

pub returns-in-Some-clause-count : goal.returns-in-Some-clause-count
returns-in-Some-clause-count c =
    let s = c.self.inside in
    rw (← c.self.view_is)
    (count-popped s.slots.items s.given.items _ s.size _ _ c.in-Some.b _ c.zeroed.ensures.len c.in-Some.ensures.items c.self.invariant)

pub returns-clause-count : goal.returns-clause-count
returns-clause-count c =
    let s = c.self.inside in
    let none : length s.given.items ≡ 0 = omega (arith, s.given.ok.0, c.in_default.ensures.cases.0) in
    let room : length s.slots.items < s.size = omega (arith, s.slots.ok.0, c.self.invariant.within, c.if-b-self.false) in
    rw (c.push_reserved.ensures.items, ← c.self.view_is)
    (count-pushed s.slots.items s.given.items c.pop.new.self.items s.size _ _ _ c.zeroed-2.ensures.len c.in_default.ensures.items none room c.self.invariant)
