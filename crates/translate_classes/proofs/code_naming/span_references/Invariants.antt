use Rattle.std.proofs.Common.{◌*◌}
use Rattle.emit_classes.specs.Built.{GrowsPool}
use Rattle.emit_classes.specs.Mentioned.{MentionsOf}
use Rattle.translate_classes.specs.CodeNaming.{AreSpanMethods, span_mentions}
use Rattle.translate_classes.proofs.code_naming.span_references.Given as goal

abbrev pub invariant-loop-k : goal.invariant-loop-k
invariant-loop-k l =
    AreSpanMethods l.class.pool l.own l.slots.items l.k
    × GrowsPool l.initial.class l.class (4 * l.k)
    × MentionsOf l.initial.class.pool l.class.pool l.own (λ owner. span_mentions owner l.k)
