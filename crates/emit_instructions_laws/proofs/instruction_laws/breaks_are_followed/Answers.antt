use Rattle.emit_simulation_laws.proofs.GuestFollows.CodeLaws.{code-laws}
use Rattle.emit_instructions_laws.proofs.InstructionLaws.Faults.{break-follows}
use Rattle.emit_instructions_laws.proofs.instruction_laws.breaks_are_followed.Goals as goal

pub returns : goal.returns
returns c = break-follows (code-laws c.code_is_paths.ensures)
