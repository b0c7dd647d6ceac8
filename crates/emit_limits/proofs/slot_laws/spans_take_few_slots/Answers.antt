use Rattle.emit_limits.proofs.SpanSlots.{span-few}
use Rattle.emit_limits.proofs.slot_laws.spans_take_few_slots.Goals as goal

pub returns : goal.returns
returns c units leads span = span-few units leads span
