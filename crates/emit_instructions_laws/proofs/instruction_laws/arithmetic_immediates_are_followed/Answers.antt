use Rattle.emit_simulation_laws.proofs.GuestFollows.CodeLaws.{code-laws}
use Rattle.emit_instructions_laws.proofs.InstructionLaws.Immediates.{arithmetic-immediate-follows}
use Rattle.emit_instructions_laws.proofs.instruction_laws.arithmetic_immediates_are_followed.Goals as goal

pub returns : goal.returns
returns c = arithmetic-immediate-follows (code-laws c.code_is_paths.ensures)
