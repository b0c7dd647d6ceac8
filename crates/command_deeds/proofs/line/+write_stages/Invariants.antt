use Rattle.std.proofs.Common.{length}
use Rattle.command_deeds.proofs.line.+write_stages.Given as goal

abbrev pub decreases-write_stages : goal.decreases-write_stages
decreases-write_stages g l = length l.stages.now
