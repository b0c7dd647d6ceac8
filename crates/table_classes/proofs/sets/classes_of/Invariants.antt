use Rattle.std.specs.List.{All}
use Rattle.class_names.specs.Kept.{IsClass}
use Rattle.table_classes.proofs.sets.classes_of.Given as goal

abbrev pub invariant-loop-name : goal.invariant-loop-name
invariant-loop-name l = All IsClass l.classes.items
