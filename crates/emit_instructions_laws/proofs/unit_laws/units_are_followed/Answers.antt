use Rattle.emit_instructions_laws.proofs.UnitLaws.Units.{unit-follows}
use Rattle.emit_instructions_laws.proofs.unit_laws.units_are_followed.Goals as goal

pub returns : goal.returns
returns c = unit-follows c.code_is_paths.ensures
