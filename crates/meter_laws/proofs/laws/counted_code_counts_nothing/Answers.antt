use Rattle.meter_laws.proofs.GuardCounts.{counted-counts, counted-writes}
use Rattle.meter_laws.proofs.laws.counted_code_counts_nothing.Goals as goal

pub returns-clause-counts : goal.returns-clause-counts
returns-clause-counts c = counted-counts

pub returns-clause-writes : goal.returns-clause-writes
returns-clause-writes c = counted-writes
