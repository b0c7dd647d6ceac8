use Rattle.std.proofs.Common.{◌+◌, ◌≤◌, [], length, map, take}
use Rattle.std.specs.List.{AllZip}
use Rattle.translate_classes.specs.Making.{AddsMethods}
use Rattle.translate_classes.specs.Pages.{IsPageSlot, page_of}
use Rattle.translate_classes.proofs.data_naming.page_slots.Given as goal

abbrev pub invariant-loop-k : goal.invariant-loop-k
invariant-loop-k l =
    AllZip (IsPageSlot l.class.pool) l.slots.items (map page_of (take l.k l.pages))
    × AddsMethods l.initial.class l.class []
    × (length l.class.pool ≤ length l.initial.class.pool + l.k)
