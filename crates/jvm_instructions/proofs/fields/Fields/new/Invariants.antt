use Rattle.std.proofs.Common.{◌≡◌, take, map}
use Rattle.jvm_definition.specs.Values.{zero_of}
use Rattle.jvm_instructions.proofs.fields.Fields.new.Given as goal

abbrev pub invariant-loop-kind : goal.invariant-loop-kind
invariant-loop-kind l = l.values.items ≡ map zero_of (take l.kind-index l.kinds)
