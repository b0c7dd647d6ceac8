use Rattle.emit_classes.proofs.MentionedEntries.{entries-pass}
use Rattle.emit_classes.proofs.laws.entries_pass.Goals as goal

pub returns : goal.returns
returns c = λ pool names test slot e is all at. entries-pass pool names is test all slot e at
