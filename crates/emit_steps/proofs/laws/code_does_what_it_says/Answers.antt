use Rattle.emit_steps.proofs.Lying.{code-leads}
use Rattle.emit_steps.proofs.laws.code_does_what_it_says.Goals as goal

pub returns : goal.returns
returns c program words m at k code w others lies = code-leads program words m others code at k w lies
