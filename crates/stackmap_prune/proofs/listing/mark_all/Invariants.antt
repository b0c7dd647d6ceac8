use Rattle.std.proofs.Common.{◌≡◌, ℕ, ◌<◌, ◌||◌, false, eqb, length, get_or, take}
use Rattle.std.specs.List.{list_any}
use Rattle.stackmap_prune.proofs.listing.mark_all.Given as goal

abbrev pub invariant-loop-target : goal.invariant-loop-target
invariant-loop-target l = record {
  size : length l.marks.items ≡ length l.fn.marks.items;
  marks : (at : ℕ) → at < length l.marks.items
      → get_or l.marks.items at false ≡ (get_or l.fn.marks.items at false || list_any (λ t. eqb t at) (take l.target-index l.targets));
}
