use Rattle.meter_laws.proofs.GuardCounts.{guard-counts, guard-writes}
use Rattle.meter_laws.proofs.laws.guards_count_nothing.Goals as goal

pub returns-clause-counts : goal.returns-clause-counts
returns-clause-counts c = guard-counts

pub returns-clause-writes : goal.returns-clause-writes
returns-clause-writes c = guard-writes
