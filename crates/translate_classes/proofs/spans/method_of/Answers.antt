use Rattle.std.proofs.Common.{Err, ap, ◌∙◌, arith}
use Rattle.translate_classes.proofs.spans.method_of.Goals as goal

pub unreachable-requires : goal.unreachable-requires
unreachable-requires c = omega (arith, c.requires.size, c.span_method.ensures.too_long (c.in-Err-TooLong.is ∙ ap Err c.in-Err-TooLong.field-0-is))
