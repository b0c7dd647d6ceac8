use Rattle.emit_instructions_laws.proofs.UnitLaws.Units.{slot-past}
use Rattle.emit_instructions_laws.proofs.unit_laws.slots_are_passed_over.Goals as goal

pub returns : goal.returns
returns c = slot-past c.code_is_paths.ensures
