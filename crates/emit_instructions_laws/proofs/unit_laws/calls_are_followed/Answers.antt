use Rattle.emit_simulation_laws.proofs.GuestFollows.CodeLaws.{code-laws}
use Rattle.emit_instructions_laws.proofs.UnitLaws.Calls.{call-follows}
use Rattle.emit_instructions_laws.proofs.unit_laws.calls_are_followed.Goals as goal

pub returns : goal.returns
returns c code site order bank known at w s ready order_is lies fields reads h =
    call-follows (code-laws c.code_is_paths.ensures) site order bank known at w s lies reads h
