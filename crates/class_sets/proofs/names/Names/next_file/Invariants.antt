use Rattle.std.proofs.Common.{◌≡◌, ◌-◌, ◌≤◌, length, Option}
use Rattle.nv_outside.specs.Files.{AgreeWith, Files, SameFiles}
use Rattle.class_sets.specs.Waiting.{texts, queue, IsOnce}
use Rattle.class_sets.proofs.FoundLemmas.{SkipsTo}
use Rattle.class_sets.proofs.names.Names.next_file.Given as goal

abbrev pub invariant-loop-self : goal.invariant-loop-self
invariant-loop-self g l = record {
  within : l.self-inside.asked ≤ length l.self-inside.names.keys;
  once : IsOnce (queue l.self-inside.asked (texts l.self-inside.names.keys));
  same : SameFiles (g.H.Shelf.files l.initial.shelf) (g.H.Shelf.files l.shelf);
  faults : g.H.Shelf.faults l.shelf ≡ g.H.Shelf.faults l.initial.shelf;
  skipped : (told : Option Files) (before : Files) → SameFiles told (g.H.Shelf.files l.initial.shelf) → AgreeWith told before
      → SkipsTo told before l.fn.self (queue l.self-inside.asked (texts l.self-inside.names.keys));
}

abbrev pub decreases-loop-self : goal.decreases-loop-self
decreases-loop-self g l = length l.self-inside.names.keys - l.self-inside.asked
