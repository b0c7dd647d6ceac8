use Rattle.command_deeds.proofs.line.write_fault_end.Goals as goal

pub returns : goal.returns
returns g c = rw (← c.decimal-kind.ensures, ← c.hexadecimal-pc.ensures, ← c.hexadecimal-value.ensures) c.write_pieces.ensures
