use Rattle.emit_simulation_laws.proofs.GuestFollows.CodeLaws.{code-laws}
use Rattle.emit_instructions_laws.proofs.InstructionLaws.Arithmetic.{arithmetic-follows}
use Rattle.emit_instructions_laws.proofs.instruction_laws.arithmetic_is_followed.Goals as goal

pub returns : goal.returns
returns c = arithmetic-follows (code-laws c.code_is_paths.ensures)
