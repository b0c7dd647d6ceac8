use Rattle.command_deeds.proofs.line.write_line.Goals as goal

pub returns-in-Usage : goal.returns-in-Usage
returns-in-Usage g c = rw (c.in-Usage.is, ← c.from.ensures) c.write_number.ensures

pub returns-in-ArgsTooLong : goal.returns-in-ArgsTooLong
returns-in-ArgsTooLong g c = rw c.in-ArgsTooLong.is c.write_number-in-ArgsTooLong.ensures

pub returns-in-FilesTooLarge : goal.returns-in-FilesTooLarge
returns-in-FilesTooLarge g c = rw c.in-FilesTooLarge.is c.write_number-in-FilesTooLarge.ensures

pub returns-in-ElfRefused : goal.returns-in-ElfRefused
returns-in-ElfRefused g c = rw c.in-ElfRefused.is c.write_numbers-in-ElfRefused.ensures

pub returns-in-ClassRefused : goal.returns-in-ClassRefused
returns-in-ClassRefused g c = rw c.in-ClassRefused.is c.write_numbers-in-ClassRefused.ensures

pub returns-in-VerifyRefused : goal.returns-in-VerifyRefused
returns-in-VerifyRefused g c = rw c.in-VerifyRefused.is c.write_numbers-in-VerifyRefused.ensures

pub returns-in-Trapped : goal.returns-in-Trapped
returns-in-Trapped g c = rw (c.in-Trapped.is, ← c.from-in-Trapped.ensures) c.write_number-in-Trapped.ensures
