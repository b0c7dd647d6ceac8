use Rattle.emit_simulation_laws.proofs.GuestFollows.CodeLaws.{code-laws}
use Rattle.emit_instructions_laws.proofs.InstructionLaws.Immediates.{load-upper-follows}
use Rattle.emit_instructions_laws.proofs.instruction_laws.load_upper_is_followed.Goals as goal

pub returns : goal.returns
returns c = load-upper-follows (code-laws c.code_is_paths.ensures)
