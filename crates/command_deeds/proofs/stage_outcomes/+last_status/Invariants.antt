use Rattle.std.proofs.Common.{length}
use Rattle.command_deeds.proofs.stage_outcomes.+last_status.Given as goal

abbrev pub decreases-last_status : goal.decreases-last_status
decreases-last_status l = length l.stages.now
