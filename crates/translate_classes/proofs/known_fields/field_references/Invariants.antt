use Rattle.std.proofs.Common.{◌*◌}
use Rattle.emit_classes.specs.Built.{GrowsPool}
use Rattle.emit_classes.specs.Mentioned.{MentionsOf}
use Rattle.translate_classes.specs.Named.{AreFields}
use Rattle.translate_classes.specs.Mentioned.{field_mentions}
use Rattle.translate_classes.proofs.known_fields.field_references.Given as goal

abbrev pub invariant-loop-field : goal.invariant-loop-field
invariant-loop-field l =
    AreFields l.class.pool l.main l.slots.items l.field
    × GrowsPool l.initial.class l.class (4 * l.field)
    × MentionsOf l.initial.class.pool l.class.pool l.main (λ owner. field_mentions owner l.field)
