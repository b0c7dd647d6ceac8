use Rattle.emit_methods_laws.proofs.NamedCode.Units.{unit-well, units-well, warm-well}
use Rattle.emit_methods_laws.proofs.named_code.units_name_well.Goals as goal

pub returns-clause-one : goal.returns-clause-one
returns-clause-one c class gives bank at unit lawful = unit-well class gives bank unit at lawful

pub returns-clause-several : goal.returns-clause-several
returns-clause-several c class gives bank at units all = units-well class gives bank units at all

pub returns-clause-piece : goal.returns-clause-piece
returns-clause-piece c class gives at units all = warm-well class gives units at all
