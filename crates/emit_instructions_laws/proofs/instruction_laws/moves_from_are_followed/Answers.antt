use Rattle.emit_simulation_laws.proofs.GuestFollows.CodeLaws.{code-laws}
use Rattle.emit_instructions_laws.proofs.InstructionLaws.Moves.{move-from-follows}
use Rattle.emit_instructions_laws.proofs.instruction_laws.moves_from_are_followed.Goals as goal

pub returns : goal.returns
returns c = move-from-follows (code-laws c.code_is_paths.ensures)
