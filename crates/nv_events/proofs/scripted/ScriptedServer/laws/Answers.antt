use Rattle.std.proofs.Common.{refl}
use Rattle.nv_events.proofs.scripted.ScriptedServer.laws.Goals as goal

pub returns-clause-goes_as_told : goal.returns-clause-goes_as_told
returns-clause-goes_as_told c = λ s t q a k e w. (t, cc, refl)
