use Rattle.std.proofs.Common.{◌≡◌, drop, take}
use Rattle.delay_slots.specs.Units.{units_of}
use Rattle.delay_slots.proofs.range_units.part_of.Given as goal

-- the units so far
abbrev pub invariant-loop-k : goal.invariant-loop-k
invariant-loop-k l = l.part.items ≡ take l.k (drop l.first (units_of l.words))
