use Rattle.emit_steps.proofs.Counting.{once}
use Rattle.emit_steps.proofs.laws.no_more_instructions_than_steps.Goals as goal

pub returns : goal.returns
returns c program words code w = once program words code 0 w
