use Rattle.std.proofs.Common.{◌≡◌, ◌+◌, ◌*◌, ◌≤◌, length, take, drop}
use Rattle.translate_classes.specs.Making.{NamesMore}
use Rattle.translate_classes.specs.Content.{RiseFrom, behind}
use Rattle.translate_classes.specs.Called.{AreOthers, BeginsWith}
use Rattle.translate_classes.specs.MainMentioned.{other_mentions}
use Rattle.translate_classes.proofs.references.add_references.Given as goal

abbrev pub invariant-loop-i : goal.invariant-loop-i
invariant-loop-i l =
    AreOthers l.class.pool l.name l.kind l.numbers l.slots.items l.i
    × BeginsWith l.initial.slots.items l.slots.items
    × (length l.slots.items ≡ behind (length l.initial.slots.items) (take l.i l.numbers))
    × RiseFrom (length l.slots.items) (drop l.i l.numbers)
    × NamesMore l.initial.class l.class (other_mentions l.name l.kind l.i)
    × (length l.class.pool ≤ length l.initial.class.pool + 6 * l.i)
