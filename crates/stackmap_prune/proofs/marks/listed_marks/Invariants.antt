use Rattle.std.proofs.Common.{◌≡◌, ℕ, ◌||◌, length}
use Rattle.stackmap_prune.specs.Code.{is_listed}
use Rattle.stackmap_prune.specs.Linked.{is_marked}
use Rattle.stackmap_prune.specs.Listing.{AreListedBefore}
use Rattle.stackmap_prune.proofs.marks.listed_marks.Given as goal

abbrev pub invariant-loop-first : goal.invariant-loop-first
invariant-loop-first l = record {
  marked : (at : ℕ) → (is_marked l.marks.items at || is_listed l.rest at) ≡ is_listed l.listed at;
  all : AreListedBefore (length l.marks.items) l.rest;
}

abbrev pub decreases-loop-first : goal.decreases-loop-first
decreases-loop-first l = length l.rest
