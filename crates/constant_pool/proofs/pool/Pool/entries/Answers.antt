use Rattle.std.proofs.Common.{ap, ◌∙◌}
use Rattle.std.specs.List.{flat_map}
use Rattle.constant_pool.specs.Slots.{slots_of_entry}
use Rattle.constant_pool.proofs.SlotLemmas.{slots_of_keys}
use Rattle.constant_pool.proofs.pool.Pool.entries.Goals as goal

pub loop-entry-init : goal.loop-entry-init
loop-entry-init c =
    let keys = c.into_iter-entry-iterator.ensures.into_iter_gives ∙ c.into_keys-entry-items.ensures.rest in
    rw (c.new-entries.ensures.items) (ap (flat_map slots_of_entry) keys ∙ slots_of_keys c.self.inside.entries.entries ∙ c.self.view_is)
