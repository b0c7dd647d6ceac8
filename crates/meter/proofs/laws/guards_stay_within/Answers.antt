use Rattle.meter.proofs.GuardSizes.{guard-within}
use Rattle.meter.proofs.laws.guards_stay_within.Goals as goal

pub returns : goal.returns
returns c = guard-within
