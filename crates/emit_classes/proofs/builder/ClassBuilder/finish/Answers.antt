use Rattle.std.proofs.Common.{Err, ap, ◌∙◌}
use Rattle.emit_classes.proofs.Limits.{no_limit}
use Rattle.emit_classes.proofs.builder.ClassBuilder.finish.Goals as goal

pub unreachable-requires : goal.unreachable-requires
unreachable-requires c =
    let b = c.self.inside in
    no_limit b c.new.result c.new-2.result c.new-3.result c.in-Err-TooLong.field-0-0 c.self.invariant
    (c.new.ensures ∙ c.in_ok-entries.ensures) c.new-2.ensures c.new-3.ensures
    ((c.write_class.ensures.too_long c.in-Err-TooLong.field-0-0).0 (c.in-Err-TooLong.is ∙ ap Err c.in-Err-TooLong.field-0-is))
