use Rattle.emit_simulation_laws.proofs.GuestFollows.CodeLaws.{code-laws}
use Rattle.emit_instructions_laws.proofs.InstructionLaws.Moves.{move-to-follows}
use Rattle.emit_instructions_laws.proofs.instruction_laws.moves_to_are_followed.Goals as goal

pub returns : goal.returns
returns c = move-to-follows (code-laws c.code_is_paths.ensures)
