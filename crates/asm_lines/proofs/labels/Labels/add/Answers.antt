use Rattle.std.proofs.Common.{ap, ◌∙◌, sym, is_some}
use Rattle.asm_lines.proofs.LabelLemmas.{added_to}
use Rattle.asm_lines.proofs.labels.Labels.add.Goals as goal

pub returns-clause-addresses : goal.returns-clause-addresses
returns-clause-addresses c =
    added_to c.args.name.now c.self.inside.addresses c.insert.new.self c.args.address c.args.self.now c.in_ok-insert.ensures.updates
    c.self.view_is (ap (λ o. is_some o) (sym c.address_of.ensures) ∙ sym c.is_some.ensures ∙ c.if-is_some.false)
