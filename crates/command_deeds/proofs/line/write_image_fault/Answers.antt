use Rattle.command_deeds.proofs.line.write_image_fault.Goals as goal

pub returns : goal.returns
returns g c = rw (← c.decimal-kind.ensures, ← c.decimal_long-number.ensures, ← c.hexadecimal-word.ensures) c.write_pieces.ensures
