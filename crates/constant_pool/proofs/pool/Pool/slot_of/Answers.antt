use Rattle.std.proofs.Common.{◌∙◌}
use Rattle.constant_pool.proofs.SlotLemmas.{found_slot, missing_slot}
use Rattle.constant_pool.proofs.pool.Pool.slot_of.Goals as goal

pub returns-clause-found : goal.returns-clause-found
returns-clause-found c =
    found_slot c.copied.result c.self.inside.entries.entries c.args.self.now c.args.e.now (c.copied.ensures ∙ c.get.ensures.value) c.self.invariant.slots c.self.view_is

pub returns-clause-missing : goal.returns-clause-missing
returns-clause-missing c =
    missing_slot c.copied.result c.self.inside.entries.entries c.args.self.now c.args.e.now (c.copied.ensures ∙ c.get.ensures.value) c.requires c.self.view_is
