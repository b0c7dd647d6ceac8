use Rattle.emit_instructions_laws.proofs.laws.pieces_are_followed.Goals as goal

pub returns : goal.returns
returns c piece some lawful straight = c.pieces_are_followed.ensures c.instructions_are_followed.ensures piece some lawful straight
