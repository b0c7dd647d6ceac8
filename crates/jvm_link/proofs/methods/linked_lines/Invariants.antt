use Rattle.std.proofs.Common.{◌≡◌, ℕ, ◌++◌, map}
use Rattle.std.specs.Vec.Iter.{into_iter_items}
use Rattle.jvm_code.specs.Writing.{AreLaid}
use Rattle.class_definition.specs.Linking.{linked_line}
use Rattle.class_names.specs.Keys.{classes_in}
use Rattle.jvm_link.proofs.methods.linked_lines.Given as goal

abbrev pub invariant-loop-line : goal.invariant-loop-line
invariant-loop-line l = record {
  at : ℕ;
  laid : AreLaid at (into_iter_items l.line-iterator);
  all :
      l.linked.items ++ map (linked_line (classes_in l.names.numbered.classes.items) l.number l.class.class.now l.gives) (into_iter_items l.line-iterator)
      ≡ map (linked_line (classes_in l.names.numbered.classes.items) l.number l.class.class.now l.gives) l.fn.lines.items;
}
