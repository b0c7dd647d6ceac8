use Rattle.std.proofs.Common.{◌∙◌, sym}
use Rattle.std.proofs.lemmas.Option.{none-some}
use Rattle.command_translate.proofs.classes.linked_classes.Goals as goal

pub unreachable-requires : goal.unreachable-requires
unreachable-requires c =
    none-some _ (sym c.requires.accepted.links ∙ (rw c.in-Err-Refused.field-0-is at c.in-Err-Refused.ensures.refused))
