use Rattle.emit_simulation_laws.proofs.GuestFollows.CodeLaws.{code-laws}
use Rattle.emit_instructions_laws.proofs.InstructionLaws.Traps.{trap-immediate-follows}
use Rattle.emit_instructions_laws.proofs.instruction_laws.trap_immediates_are_followed.Goals as goal

pub returns : goal.returns
returns c = trap-immediate-follows (code-laws c.code_is_paths.ensures)
