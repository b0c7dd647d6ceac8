-- No unit has much code.
use Rattle.std.proofs.Common.{◌≤◌, arith}
use Rattle.delay_slots.specs.declared.unit.Unit.{Unit}
use Rattle.delay_slots.specs.declared.unit.Unit.TheVariants.{Plain, Branch, SlotMissing, SlotIsBranch, Call, Trap}
use Rattle.emit_limits.specs.Weights.{unit_bytes}
use Rattle.emit_limits.proofs.SmallInstructions.{instruction-small}

pub unit-small : (unit : Unit) → unit_bytes unit ≤ 76
unit-small (Plain i) = let here = instruction-small i in omega (arith, here)
unit-small (Branch i slot) = let here = instruction-small i in let there = instruction-small slot in omega (arith, here, there)
unit-small (SlotMissing i) = let here = instruction-small i in omega (arith, here)
unit-small (SlotIsBranch i word) = let here = instruction-small i in omega (arith, here)
unit-small Call = omega arith
unit-small (Trap kind value) = omega arith
