use Rattle.std.proofs.Common.{refl, ap, ◌∙◌}
use Rattle.std.specs.Prelude.{reverse}
use Rattle.stackmap_table.proofs.shortest.full.Goals as goal

pub returns : goal.returns
returns c =
    rw (c.new.ensures ∙ c.in_ok-locals.ensures, c.new-2.ensures ∙ (c.reverse.ensures.items ∙ ap reverse c.in_ok-operands.ensures)) refl
