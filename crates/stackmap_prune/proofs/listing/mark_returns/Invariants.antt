use Rattle.std.proofs.Common.{◌≡◌, ℕ, ◌<◌, ◌||◌, length}
use Rattle.std.specs.List.{list_any}
use Rattle.jvm_definition.specs.declared.return_name.ReturnName.{ReturnName}
use Rattle.stackmap_prune.specs.Linked.{is_marked, linked_returns}
use Rattle.stackmap_prune.specs.Listing.{is_entered_by}
use Rattle.stackmap_prune.proofs.listing.mark_returns.Given as goal

abbrev pub invariant-loop-i : goal.invariant-loop-i
invariant-loop-i l = record {
  size : length l.marks.items ≡ length l.fn.marks.items;
  marks : (name : ReturnName) (at : ℕ) → at < length l.marks.items
      → is_marked l.marks.items at ≡ (is_marked l.fn.marks.items at || list_any (is_entered_by at) (linked_returns name l.from l.i));
}
