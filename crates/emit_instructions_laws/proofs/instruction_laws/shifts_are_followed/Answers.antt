use Rattle.emit_simulation_laws.proofs.GuestFollows.CodeLaws.{code-laws}
use Rattle.emit_instructions_laws.proofs.InstructionLaws.Shifts.{shift-follows}
use Rattle.emit_instructions_laws.proofs.instruction_laws.shifts_are_followed.Goals as goal

pub returns : goal.returns
returns c = shift-follows (code-laws c.code_is_paths.ensures)
