use Rattle.emit_simulation_laws.proofs.GuestFollows.CodeLaws.{code-laws}
use Rattle.emit_instructions_laws.proofs.AccessLaws.Storing.{store-follows}
use Rattle.emit_instructions_laws.proofs.access_laws.stores_are_followed.Goals as goal

pub returns : goal.returns
returns c = store-follows (code-laws c.code_is_paths.ensures) (record {
  faulty = c.faulty_stores_end_the_run.ensures;
  stores = c.stores_are_done.ensures;
})
