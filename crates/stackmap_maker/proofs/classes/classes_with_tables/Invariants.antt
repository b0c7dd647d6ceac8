use Rattle.std.proofs.Common.{◌≡◌, take}
use Rattle.type_verifier.specs.Refusal.{methods_before}
use Rattle.stackmap_maker.specs.Made.{AreTabledTo}
use Rattle.stackmap_maker.proofs.Steps.{AllRoom}
use Rattle.stackmap_maker.proofs.classes.classes_with_tables.Given as goal

abbrev pub invariant-loop-number : goal.invariant-loop-number
invariant-loop-number l = record {
  first : l.first ≡ methods_before l.linked.classes l.number;
  tabled : AreTabledTo l.linked.classes (take l.number l.linked.classes) l.tabled;
  room : AllRoom l.linked.classes l.number;
}
