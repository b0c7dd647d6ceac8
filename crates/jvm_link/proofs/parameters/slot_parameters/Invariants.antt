use Rattle.std.proofs.Common.{◌≡◌, take, map}
use Rattle.jvm_link.specs.Parameters.{entry_parameters}
use Rattle.jvm_link.proofs.parameters.slot_parameters.Given as goal

abbrev pub invariant-loop-entry : goal.invariant-loop-entry
invariant-loop-entry l = l.parameters.items ≡ map entry_parameters (take l.entry-index l.pool)
