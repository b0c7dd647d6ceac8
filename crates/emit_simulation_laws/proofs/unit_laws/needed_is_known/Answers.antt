use Rattle.emit_simulation_laws.proofs.LawfulUnits.Needing.{first_known, others_known, unit_known, written_where_likely}
use Rattle.emit_simulation_laws.proofs.unit_laws.needed_is_known.Goals as goal

pub returns-clause-unit : goal.returns-clause-unit
returns-clause-unit c = unit_known

pub returns-clause-likely : goal.returns-clause-likely
returns-clause-likely c = written_where_likely

pub returns-clause-first : goal.returns-clause-first
returns-clause-first c = first_known

pub returns-clause-others : goal.returns-clause-others
returns-clause-others c = others_known
