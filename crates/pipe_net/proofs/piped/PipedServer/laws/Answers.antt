use Rattle.std.proofs.lemmas.Option.{none-some}
use Rattle.pipe_net.proofs.piped.PipedServer.laws.Goals as goal

pub returns-clause-goes_as_told : goal.returns-clause-goes_as_told
returns-clause-goes_as_told g c = λ j k q a s w went. absurd (none-some s w)

pub returns-clause-held_as_told : goal.returns-clause-held_as_told
returns-clause-held_as_told g c = λ j k q s w held. absurd (none-some s w)
