use Rattle.emit_simulation_laws.proofs.GuestFollows.CodeLaws.{code-laws}
use Rattle.emit_instructions_laws.proofs.AccessLaws.Conditional.{store-conditional-follows}
use Rattle.emit_instructions_laws.proofs.access_laws.conditional_stores_are_followed.Goals as goal

pub returns : goal.returns
returns c = store-conditional-follows (code-laws c.code_is_paths.ensures) (record {
  faulty = c.conditional_stores_are_concluded.ensures.faulty;
  concluded = c.conditional_stores_are_concluded.ensures.concluded;
})
