use Rattle.std.proofs.Common.{◌≡◌, ℕ, ◌++◌, length}
use Rattle.jvm_definition.specs.Program.{LaidFrom}
use Rattle.stackmap_prune.specs.Pruned.{return_of}
use Rattle.stackmap_prune.specs.Linked.{is_marked, pruned_linked}
use Rattle.stackmap_prune.specs.Listing.{listing}
use Rattle.stackmap_prune.proofs.LinkedLaws.{more}
use Rattle.stackmap_prune.proofs.listing.listing_of.Given as goal

abbrev pub invariant-loop-line : goal.invariant-loop-line
invariant-loop-line l = record {
  listed : l.listed.items
      ++ more (is_marked l.marks.items) l.reached l.method.gives_int l.method.parameters l.listed.items
      (pruned_linked (is_marked l.kept.items) (return_of l.method.gives_int) l.rest)
      ≡ listing (is_marked l.marks.items) l.reached l.method.gives_int l.method.parameters
      (pruned_linked (is_marked l.kept.items) (return_of l.method.gives_int) l.method.lines);
  at : ℕ;
  laid : LaidFrom at l.rest;
}

abbrev pub decreases-loop-line : goal.decreases-loop-line
decreases-loop-line l = length l.rest
