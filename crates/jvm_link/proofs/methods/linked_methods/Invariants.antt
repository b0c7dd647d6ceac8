use Rattle.std.proofs.Common.{◌≡◌, ◌++◌, drop}
use Rattle.std.specs.List.{All}
use Rattle.class_definition.specs.Linking.{methods_from, linked_methods}
use Rattle.jvm_code.specs.Order.{IsInOrder}
use Rattle.class_names.specs.Keys.{classes_in}
use Rattle.jvm_link.proofs.methods.linked_methods.Given as goal

abbrev pub invariant-loop-number : goal.invariant-loop-number
invariant-loop-number l = record {
  methods : l.methods.items ++ methods_from (classes_in l.names.numbered.classes.items) l.number (classes_in (drop l.number l.names.numbered.classes.items))
      ≡ linked_methods (classes_in l.names.numbered.classes.items);
  laid : All IsInOrder l.methods.items;
}
