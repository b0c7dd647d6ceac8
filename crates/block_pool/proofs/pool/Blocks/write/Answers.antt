use Rattle.std.proofs.Common.{◌∙◌, slice_set}
use Rattle.std.proofs.lemmas.List.{length-set}
use Rattle.block_pool.proofs.KeptLemmas.{count-put, IsKept-put, slot_size, pool_of-put_bytes}
use Rattle.block_pool.proofs.pool.Blocks.write.Goals as goal

pub invariant_of-self : goal.invariant_of-self
invariant_of-self c =
    let s = c.self.inside in
    let used = rw (← c.self.view_is) at c.requires.used in
    let size = slot_size s.slots.items s.given.items s.size _ _ c.args.b c.in-Some.block used (rw c.in-Some.is at c.index_mut.ensures.value) c.self.invariant in
    IsKept-put s.slots.items s.given.items s.size _ _ c.args.b _ (length-set c.in-Some.block.bytes c.args.at c.args.v ∙ size) used c.self.invariant

pub returns-clause-changed : goal.returns-clause-changed
returns-clause-changed c =
    let s = c.self.inside in
    rw (← c.self.view_is)
    (pool_of-put_bytes (λ bytes. slice_set bytes c.args.at c.args.v) s.slots.items s.given.items s.size c.args.b c.in-Some.block (rw (← c.self.view_is) at c.requires.used) (rw c.in-Some.is at c.index_mut.ensures.value))

pub returns-clause-sound : goal.returns-clause-sound
returns-clause-sound c =
    let s = c.self.inside in
    let used = rw (← c.self.view_is) at c.requires.used in
    let size = slot_size s.slots.items s.given.items s.size _ _ c.args.b c.in-Some.block used (rw c.in-Some.is at c.index_mut.ensures.value) c.self.invariant in
    (IsKept-put s.slots.items s.given.items s.size _ _ c.args.b _ (length-set c.in-Some.block.bytes c.args.at c.args.v ∙ size) used c.self.invariant).sound

pub returns-clause-count : goal.returns-clause-count
returns-clause-count c =
    let s = c.self.inside in
    let used = rw (← c.self.view_is) at c.requires.used in
    let size = slot_size s.slots.items s.given.items s.size _ _ c.args.b c.in-Some.block used (rw c.in-Some.is at c.index_mut.ensures.value) c.self.invariant in
    rw (← c.self.view_is)
    (count-put s.slots.items s.given.items s.size _ _ c.args.b _ (length-set c.in-Some.block.bytes c.args.at c.args.v ∙ size) used c.self.invariant)
