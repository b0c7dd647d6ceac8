use Rattle.std.proofs.Common.{ap, ◌∙◌}
use Rattle.asm_lines.specs.Operands as operands
use Rattle.asm_lines.proofs.LabelLemmas.{found_in}
use Rattle.asm_lines.proofs.labels.Labels.address_of.Goals as goal

pub returns : goal.returns
returns c =
    c.copied.ensures ∙ c.get.ensures.value ∙ found_in c.self.inside.addresses c.args.name.now
    ∙ ap (λ labels. operands.label_address labels c.args.name.now) c.self.view_is
