use Rattle.std.proofs.Common.{◌≡◌, length}
use Rattle.std.specs.List.{All}
use Rattle.nv_outside.specs.Files.{SameFiles}
use Rattle.class_names.specs.Kept.{IsClass}
use Rattle.class_sets.proofs.FoundLemmas.{GoesOn}
use Rattle.class_sets.proofs.load.load_set.Given as goal

abbrev pub invariant-loop-number : goal.invariant-loop-number
invariant-loop-number g l = record {
  numbered : length l.classes.items ≡ l.number;
  kept : All IsClass l.classes.items;
  same : SameFiles (g.H.Shelf.files l.initial.shelf) (g.H.Shelf.files l.shelf);
  faults : g.H.Shelf.faults l.shelf ≡ g.H.Shelf.faults l.initial.shelf;
  goes_on : GoesOn (g.H.Shelf.files l.initial.shelf) l.fn.name l.number l.classes.items l.names;
}
