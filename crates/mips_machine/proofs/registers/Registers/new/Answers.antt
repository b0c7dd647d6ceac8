use Rattle.mips_machine.specs.Registers.{registers_of}
use Rattle.mips_machine.proofs.RegisterLemmas.{first_registers}
use Rattle.mips_machine.proofs.registers.Registers.new.Goals as goal

pub returns : goal.returns
unfolding registers_of
returns c = λ i r. first_registers 0x7fff_eff0 r i
