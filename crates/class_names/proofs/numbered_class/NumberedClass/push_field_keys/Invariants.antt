use Rattle.std.proofs.Common.{◌≡◌, ◌++◌, map, take}
use Rattle.class_names.specs.Keys.{own_key}
use Rattle.class_names.proofs.numbered_class.NumberedClass.push_field_keys.Given as goal

abbrev pub invariant-loop-field : goal.invariant-loop-field
invariant-loop-field l = l.keys.items ≡ l.fn.keys.items ++ map (λ m. own_key l.self m.name m.desc) (take l.field-index l.field-items)
