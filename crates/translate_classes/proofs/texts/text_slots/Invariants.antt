use Rattle.std.proofs.Common.{◌+◌, ◌≤◌, [], length, map}
use Rattle.std.specs.List.{AllZip, range_with_len}
use Rattle.emit_classes.specs.Named.{IsTextAt}
use Rattle.translate_classes.specs.Making.{AddsMethods}
use Rattle.translate_classes.specs.Content.{share_text}
use Rattle.translate_classes.proofs.texts.text_slots.Given as goal

abbrev pub invariant-loop-k : goal.invariant-loop-k
invariant-loop-k l =
    AllZip (IsTextAt l.class.pool) l.slots.items (map (share_text l.runs) (range_with_len 0 l.k))
    × AddsMethods l.initial.class l.class []
    × (length l.class.pool ≤ length l.initial.class.pool + l.k)
