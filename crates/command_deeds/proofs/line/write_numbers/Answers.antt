use Rattle.command_deeds.proofs.line.write_numbers.Goals as goal

pub returns : goal.returns
returns g c = rw (← c.decimal-a.ensures, ← c.decimal-b.ensures, ← c.decimal-c.ensures) c.write_pieces.ensures
