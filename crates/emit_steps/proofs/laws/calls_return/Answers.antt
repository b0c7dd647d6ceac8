use Rattle.emit_steps.proofs.Calling.{calls-return}
use Rattle.emit_steps.proofs.laws.calls_return.Goals as goal

pub returns : goal.returns
returns c program words m at i callee n code w caller back given result others =
    calls-return program words m at i callee n code w caller back given result others
