use Rattle.std.proofs.Common.{◌≡◌, ◌+◌, drop}
use Rattle.class_definition.specs.LinkFault.{slots_fault}
use Rattle.class_names.specs.Keys.{classes_in}
use Rattle.class_names.proofs.references.slots_fault.Given as goal

abbrev pub invariant-loop-i : goal.invariant-loop-i
invariant-loop-i l =
    slots_fault (classes_in l.names.numbered.classes.items) l.class.class.now l.number (l.i + 1) (drop l.i l.class.class.now.pool)
    ≡ slots_fault (classes_in l.names.numbered.classes.items) l.class.class.now l.number 1 l.class.class.now.pool
