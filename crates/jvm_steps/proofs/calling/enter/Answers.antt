use Rattle.jvm_steps.proofs.Taking.{still_roomy}
use Rattle.jvm_steps.proofs.calling.enter.Goals as goal

pub returns-then-is_full-clause-roomy : goal.returns-then-is_full-clause-roomy
returns-then-is_full-clause-roomy c = still_roomy c.args.program.now.classes c.args.program.now.code c.args.working.now c.requires.going
