use Rattle.std.proofs.Common.{Some, ap, sym, ◌∙◌}
use Rattle.pipe_net.proofs.Lists.{get-of}
use Rattle.pipe_net.proofs.ShownStages.{outcome-shown}
use Rattle.pipe_net.proofs.net.Net.outcome.Goals as goal

pub returns-clause-shown : goal.returns-clause-shown
returns-clause-shown c left p model shows sound = outcome-shown c.args.self.now left p model shows sound c.args.i c.index.result.now (get-of c.args.self.now.stages.items c.args.i c.index.result.now c.requires ∙ ap Some (sym c.index.ensures))
