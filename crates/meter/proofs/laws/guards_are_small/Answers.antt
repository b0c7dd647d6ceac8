use Rattle.meter.proofs.GuardSizes.{guard-bytes}
use Rattle.meter.proofs.laws.guards_are_small.Goals as goal

pub returns : goal.returns
returns c = guard-bytes
