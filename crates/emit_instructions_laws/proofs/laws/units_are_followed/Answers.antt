use Rattle.emit_instructions_laws.proofs.laws.units_are_followed.Goals as goal

pub returns : goal.returns
returns c unit lawful = c.units_are_followed.ensures c.instructions_are_followed.ensures unit lawful
