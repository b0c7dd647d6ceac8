use Rattle.command_deeds.proofs.line.write_asm_fault.Goals as goal

pub returns : goal.returns
returns g c = rw (← c.decimal-line.ensures, ← c.decimal-kind.ensures) c.write_pieces.ensures
