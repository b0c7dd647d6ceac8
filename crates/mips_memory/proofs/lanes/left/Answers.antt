use Rattle.std.proofs.Common.{◌≡◌, ◌∙◌, ◌-◌, ap, sym, subst}
use Rattle.run_definition.specs.declared.order.Order.{Order}
use Rattle.run_definition.specs.declared.order.Order.TheVariants.{Big}
use Rattle.mips_definition.specs.Memory.{left_part, merged}
use Rattle.mips_memory.specs.OneWord.{one_word}
use Rattle.mips_memory.proofs.LaneForms.{left_turned}
use Rattle.mips_memory.proofs.lanes.left.Goals as goal

pub returns-in-Big : goal.returns-in-Big
returns-in-Big c = subst (λ (o : Order). c.from_on.result ≡ merged (one_word c.args.word) (left_part o c.args.place) c.args.old) (sym c.in-Big.is) c.from_on.ensures

pub returns-in-Little : goal.returns-in-Little
returns-in-Little c =
    subst (λ (o : Order). c.from_on-in-Little.result ≡ merged (one_word c.args.word) (left_part o c.args.place) c.args.old) (sym c.in-Little.is)
    (c.from_on-in-Little.ensures
    ∙ ap (λ x. merged (one_word x) (left_part Big (3 - c.args.place)) c.args.old) c.word_of_lanes.ensures
    ∙ sym (left_turned c.args.word c.args.old c.args.place c.requires))
