use Rattle.std.proofs.Common.{◌≡◌, ◌++◌}
use Rattle.std.specs.List.{flat_map}
use Rattle.constant_pool.specs.Slots.{slots_of_entry}
use Rattle.constant_pool.proofs.pool.Pool.entries.Given as goal

abbrev pub invariant-loop-entry : goal.invariant-loop-entry
invariant-loop-entry l = l.entries.items ++ flat_map slots_of_entry l.entry-iterator ≡ l.fn.self
