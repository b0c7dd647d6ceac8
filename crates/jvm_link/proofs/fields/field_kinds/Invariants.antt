use Rattle.std.proofs.Common.{◌≡◌, take}
use Rattle.class_definition.specs.Linking.{field_kinds}
use Rattle.jvm_link.proofs.fields.field_kinds.Given as goal

abbrev pub invariant-loop-class : goal.invariant-loop-class
invariant-loop-class l = l.kinds.items ≡ field_kinds (take l.class-index l.classes)
