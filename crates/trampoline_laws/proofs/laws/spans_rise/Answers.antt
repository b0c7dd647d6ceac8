use Rattle.trampoline_laws.proofs.TrampolineLaws.Words.{starts-rise, starts-some, starts-few}
use Rattle.trampoline_laws.proofs.laws.spans_rise.Goals as goal

pub returns : goal.returns
returns c a is = record { rise = starts-rise a is; some = starts-some a is; few = starts-few a is }
