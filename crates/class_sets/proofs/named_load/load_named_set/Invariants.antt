use Rattle.std.proofs.Common.{◌≡◌, length}
use Rattle.nv_outside.specs.Files.{SameFiles}
use Rattle.class_sets.specs.NamedSets.{members_of}
use Rattle.class_sets.specs.NamedKept.{AreKept}
use Rattle.class_sets.proofs.NamedSetLemmas.{GoesOn}
use Rattle.class_sets.proofs.named_load.load_named_set.Given as goal

abbrev pub invariant-loop-number : goal.invariant-loop-number
invariant-loop-number g l = record {
  numbered : length l.classes.items ≡ l.number;
  kept : AreKept l.version (members_of l.names.items l.classes.items l.tables.items);
  same : SameFiles (g.H.Shelf.files l.initial.shelf) (g.H.Shelf.files l.shelf);
  faults : g.H.Shelf.faults l.shelf ≡ g.H.Shelf.faults l.initial.shelf;
  goes_on : GoesOn l.version (g.H.Shelf.files l.initial.shelf) l.fn.name l.number (members_of l.names.items l.classes.items l.tables.items) l.waiting;
}
