use Rattle.emit_simulation_laws.proofs.GuestFollows.CodeLaws.{code-laws}
use Rattle.emit_instructions_laws.proofs.AccessLaws.Multiplying.{product-follows}
use Rattle.emit_instructions_laws.proofs.access_laws.products_are_followed.Goals as goal

pub returns : goal.returns
returns c = product-follows (code-laws c.code_is_paths.ensures) c.products_are_put.ensures.gives c.products_are_put.ensures.words
