use Rattle.std.proofs.Common.{ap, ◌∙◌}
use Rattle.asm_lines.specs.Numbers.{written_number}
use Rattle.asm_lines.specs.Operands.{in_range}
use Rattle.asm_lines.proofs.NumberLemmas.{in_range_kept}
use Rattle.asm_lines.proofs.operands.number_between.Goals as goal

pub returns-clause-value : goal.returns-clause-value
returns-clause-value c =
    c.in_range.ensures.value
    ∙ ap (λ n. in_range c.args.low c.args.high c.args.bits n) c.number_of.ensures
    ∙ in_range_kept c.args.low c.args.high c.args.bits (written_number c.args.text.now) c.requires.low_small c.requires.high_small
