use Rattle.std.proofs.Common.{◌≡◌, ◌++◌, take, map}
use Rattle.std.specs.List.{All}
use Rattle.class_definition.specs.Linking.{linked_method}
use Rattle.jvm_code.specs.Order.{IsInOrder}
use Rattle.class_names.specs.Keys.{classes_in}
use Rattle.jvm_link.proofs.methods.push_methods.Given as goal

abbrev pub invariant-loop-method : goal.invariant-loop-method
invariant-loop-method l = record {
  methods : l.methods.items ≡ l.fn.methods.items ++ map (linked_method (classes_in l.names.numbered.classes.items) l.number l.class.class.now) (take l.method-index l.method-items);
  laid : All IsInOrder l.methods.items;
}
