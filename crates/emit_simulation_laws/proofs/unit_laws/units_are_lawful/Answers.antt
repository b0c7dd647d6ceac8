use Rattle.emit_simulation_laws.proofs.LawfulUnits.Units.{all_lawful, each_lawful, reads_are_numbers, writes_are_numbers}
use Rattle.emit_simulation_laws.proofs.unit_laws.units_are_lawful.Goals as goal

pub returns-clause-all : goal.returns-clause-all
returns-clause-all c = all_lawful c.encoding_inverts_decoding.ensures.words

pub returns-clause-each : goal.returns-clause-each
returns-clause-each c = each_lawful c.encoding_inverts_decoding.ensures.words

pub returns-clause-read : goal.returns-clause-read
returns-clause-read c = reads_are_numbers

pub returns-clause-written : goal.returns-clause-written
returns-clause-written c = writes_are_numbers
