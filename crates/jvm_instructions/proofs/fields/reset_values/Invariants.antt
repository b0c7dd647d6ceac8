use Rattle.std.proofs.Common.{◌≡◌, take, map}
use Rattle.jvm_definition.specs.Values.{zero_of}
use Rattle.jvm_instructions.proofs.fields.reset_values.Given as goal

abbrev pub invariant-loop-i : goal.invariant-loop-i
invariant-loop-i l = take l.i l.values ≡ map zero_of (take l.i l.kinds)
