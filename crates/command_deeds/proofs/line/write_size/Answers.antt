use Rattle.command_deeds.proofs.line.write_size.Goals as goal

pub returns : goal.returns
returns g c = rw (← c.decimal-class.ensures, ← c.decimal_long-bytes.ensures) c.write_pieces.ensures
