use Rattle.std.proofs.Common.{◌≡◌, ◌++◌, take, map}
use Rattle.class_definition.specs.Linking.{field_kind}
use Rattle.jvm_link.proofs.fields.push_kinds.Given as goal

abbrev pub invariant-loop-field : goal.invariant-loop-field
invariant-loop-field l = l.kinds.items ≡ l.fn.kinds.items ++ map (field_kind l.class) (take l.field-index l.field-items)
