use Rattle.emit_simulation_laws.proofs.GuestFollows.CodeLaws.{code-laws}
use Rattle.emit_instructions_laws.proofs.InstructionLaws.Faults.{sync-follows}
use Rattle.emit_instructions_laws.proofs.instruction_laws.syncs_are_followed.Goals as goal

pub returns : goal.returns
returns c = sync-follows (code-laws c.code_is_paths.ensures)
