use Rattle.std.proofs.Common.{◌≡◌, ◌++◌, ◌-◌}
use Rattle.class_definition.specs.Linking.{parameters_from}
use Rattle.jvm_link.proofs.kinds.parameters_from.Given as goal

abbrev pub invariant-loop : goal.invariant-loop
invariant-loop l = l.kinds.items ++ parameters_from (255 - l.counter) l.rest ≡ parameters_from 255 l.text
