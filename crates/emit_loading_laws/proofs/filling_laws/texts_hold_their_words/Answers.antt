use Rattle.emit_loading_laws.proofs.FillingLaws.Spelling.{text-spells, text-long}
use Rattle.emit_loading_laws.proofs.filling_laws.texts_hold_their_words.Goals as goal

pub returns-clause-spelled : goal.returns-clause-spelled
returns-clause-spelled c = text-spells

pub returns-clause-long : goal.returns-clause-long
returns-clause-long c = text-long
