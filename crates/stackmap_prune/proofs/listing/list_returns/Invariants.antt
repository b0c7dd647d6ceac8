use Rattle.std.proofs.Common.{◌≡◌, ◌++◌}
use Rattle.jvm_definition.specs.declared.return_name.ReturnName.{ReturnName}
use Rattle.stackmap_prune.specs.Linked.{is_marked, linked_returns}
use Rattle.stackmap_prune.proofs.LinkedLaws.{more}
use Rattle.stackmap_prune.proofs.listing.list_returns.Given as goal

abbrev pub invariant-loop-i : goal.invariant-loop-i
invariant-loop-i l =
    (name : ReturnName)
    → l.listed.items ≡ l.fn.listed.items
    ++ more (is_marked l.marks) l.reached l.method.gives_int l.method.parameters l.fn.listed.items (linked_returns name l.at l.i)
