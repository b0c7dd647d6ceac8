use Rattle.emit_classes.proofs.MentionedEntries.{classes-named}
use Rattle.emit_classes.proofs.laws.classes_are_asked_for.Goals as goal

pub returns : goal.returns
returns c = λ pool names sound is. classes-named pool names sound is
