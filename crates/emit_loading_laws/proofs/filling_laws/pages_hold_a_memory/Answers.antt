use Rattle.emit_loading_laws.proofs.FillingLaws.Remembering.{zeros-held, words-held, memory-held}
use Rattle.emit_loading_laws.proofs.filling_laws.pages_hold_a_memory.Goals as goal

pub returns-clause-zeros : goal.returns-clause-zeros
returns-clause-zeros c = zeros-held

pub returns-clause-filled : goal.returns-clause-filled
returns-clause-filled c = words-held

pub returns-clause-held : goal.returns-clause-held
returns-clause-held c = memory-held
