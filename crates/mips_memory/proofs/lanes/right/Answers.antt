use Rattle.std.proofs.Common.{◌≡◌, ◌∙◌, ◌-◌, ap, sym, subst}
use Rattle.run_definition.specs.declared.order.Order.{Order}
use Rattle.run_definition.specs.declared.order.Order.TheVariants.{Big}
use Rattle.mips_definition.specs.Memory.{right_part, merged}
use Rattle.mips_memory.specs.OneWord.{one_word}
use Rattle.mips_memory.proofs.LaneForms.{right_turned}
use Rattle.mips_memory.proofs.lanes.right.Goals as goal

pub returns-in-Big : goal.returns-in-Big
returns-in-Big c = subst (λ (o : Order). c.up_to.result ≡ merged (one_word c.args.word) (right_part o c.args.place) c.args.old) (sym c.in-Big.is) c.up_to.ensures

pub returns-in-Little : goal.returns-in-Little
returns-in-Little c =
    subst (λ (o : Order). c.up_to-in-Little.result ≡ merged (one_word c.args.word) (right_part o c.args.place) c.args.old) (sym c.in-Little.is)
    (c.up_to-in-Little.ensures
    ∙ ap (λ x. merged (one_word x) (right_part Big (3 - c.args.place)) c.args.old) c.word_of_lanes.ensures
    ∙ sym (right_turned c.args.word c.args.old c.args.place c.requires))
