use Rattle.std.proofs.Common.{◌≡◌, ◌++◌, map, take}
use Rattle.class_names.specs.Keys.{own_key}
use Rattle.class_names.proofs.numbered_class.NumberedClass.push_method_keys.Given as goal

abbrev pub invariant-loop-method : goal.invariant-loop-method
invariant-loop-method l = l.keys.items ≡ l.fn.keys.items ++ map (λ m. own_key l.self m.name m.desc) (take l.method-index l.method-items)
