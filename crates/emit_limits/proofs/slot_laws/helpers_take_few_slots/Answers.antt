use Rattle.emit_limits.proofs.HelperSlots.{helpers-few}
use Rattle.emit_limits.proofs.slot_laws.helpers_take_few_slots.Goals as goal

pub returns : goal.returns
returns c order number below = helpers-few order number below
