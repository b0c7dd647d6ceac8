use Rattle.std.proofs.Common.{◌≡◌, ℕ, List, [], drop}
use Rattle.class_definition.specs.LinkFault.{twice_fault}
use Rattle.class_names.specs.Keys.{classes_in}
use Rattle.class_names.proofs.FaultLemmas.{AreBefore}
use Rattle.class_names.proofs.twice.twice_fault.Given as goal

abbrev pub invariant-loop-number : goal.invariant-loop-number
invariant-loop-number l = record {
  before : List (List ℕ);
  are : AreBefore l.numbered.texts.keys l.names.keys before;
  same : twice_fault before l.number (classes_in (drop l.number l.numbered.classes.items)) ≡ twice_fault [] 0 (classes_in l.numbered.classes.items);
}
