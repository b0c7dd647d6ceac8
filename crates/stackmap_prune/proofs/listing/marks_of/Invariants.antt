use Rattle.std.proofs.Common.{◌≡◌, ℕ, ◌<◌, ◌||◌, length}
use Rattle.std.specs.List.{list_any}
use Rattle.jvm_definition.specs.Program.{LaidFrom}
use Rattle.stackmap_prune.specs.Pruned.{return_of}
use Rattle.stackmap_prune.specs.Linked.{is_marked, pruned_linked}
use Rattle.stackmap_prune.specs.Listing.{is_entered_by, must_list, AllBefore}
use Rattle.stackmap_prune.proofs.listing.marks_of.Given as goal

abbrev pub invariant-loop-line : goal.invariant-loop-line
invariant-loop-line l = record {
  marks : (at : ℕ) → at < length l.marks.items
      → (is_marked l.marks.items at || list_any (is_entered_by at) (pruned_linked (is_marked l.kept) (return_of l.method.gives_int) l.rest))
      ≡ must_list (pruned_linked (is_marked l.kept) (return_of l.method.gives_int) l.method.lines) at;
  all : AllBefore (length l.marks.items) (pruned_linked (is_marked l.kept) (return_of l.method.gives_int) l.method.lines);
  at : ℕ;
  laid : LaidFrom at l.rest;
}

abbrev pub decreases-loop-line : goal.decreases-loop-line
decreases-loop-line l = length l.rest
