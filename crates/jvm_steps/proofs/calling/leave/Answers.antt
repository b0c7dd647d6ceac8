use Rattle.jvm_steps.proofs.Taking.{still_roomy}
use Rattle.jvm_steps.proofs.calling.leave.Goals as goal

pub returns-then-depth-eq0-clause-roomy : goal.returns-then-depth-eq0-clause-roomy
returns-then-depth-eq0-clause-roomy c = still_roomy c.args.program.now.classes c.args.program.now.code c.args.working.now c.requires.going
