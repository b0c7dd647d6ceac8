use Rattle.std.proofs.Common.{◌+◌, ◌*◌, ◌≤◌, length}
use Rattle.translate_classes.specs.Making.{AddsMethods}
use Rattle.translate_classes.specs.Main.{helper_plans}
use Rattle.translate_classes.proofs.methods.add_helpers.Given as goal

abbrev pub invariant-loop-number : goal.invariant-loop-number
invariant-loop-number l =
    AddsMethods l.initial.class l.class (helper_plans l.order l.references l.number)
    × (length l.class.pool ≤ length l.initial.class.pool + 6 * l.number)
