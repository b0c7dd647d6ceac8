use Rattle.emit_instructions_laws.proofs.UnitCounts.Addresses.{unit-leads}
use Rattle.emit_instructions_laws.proofs.unit_counts.pcs_are_words.Goals as goal

pub returns : goal.returns
returns c x unit lawful free words = unit-leads x words unit lawful free
