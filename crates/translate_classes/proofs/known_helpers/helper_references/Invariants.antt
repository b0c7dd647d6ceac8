use Rattle.std.proofs.Common.{◌*◌}
use Rattle.emit_classes.specs.Built.{GrowsPool}
use Rattle.emit_classes.specs.Mentioned.{MentionsOf}
use Rattle.translate_classes.specs.Named.{AreHelpers}
use Rattle.translate_classes.specs.Mentioned.{helper_mentions}
use Rattle.translate_classes.proofs.known_helpers.helper_references.Given as goal

abbrev pub invariant-loop-number : goal.invariant-loop-number
invariant-loop-number l =
    AreHelpers l.class.pool l.main l.slots.items l.number
    × GrowsPool l.initial.class l.class (4 * l.number)
    × MentionsOf l.initial.class.pool l.class.pool l.main (λ owner. helper_mentions owner l.number)
