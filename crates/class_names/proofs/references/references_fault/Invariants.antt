use Rattle.std.proofs.Common.{◌≡◌, drop}
use Rattle.class_definition.specs.LinkFault.{references_fault}
use Rattle.class_names.specs.Keys.{classes_in}
use Rattle.class_names.proofs.references.references_fault.Given as goal

abbrev pub invariant-loop-number : goal.invariant-loop-number
invariant-loop-number l =
    references_fault (classes_in l.names.numbered.classes.items) l.number (classes_in (drop l.number l.names.numbered.classes.items))
    ≡ references_fault (classes_in l.names.numbered.classes.items) 0 (classes_in l.names.numbered.classes.items)
