use Rattle.std.proofs.Common.{◌≡◌, length, sym, arith}
use Rattle.std.proofs.lemmas.List.{length-map}
use Rattle.pipe_net.specs.Turning.{outcomes_of}
use Rattle.pipe_net.specs.declared.stage.Stage.{Stage}
use Rattle.command_pipe.proofs.ListLemmas.{none-behind}
use Rattle.command_pipe.proofs.piping.outcome_at.Goals as goal

pub returns-then-i-count : goal.returns-then-i-count
returns-then-i-count c = sym c.outcome.ensures.at

pub returns-else-i-count : goal.returns-else-i-count
returns-else-i-count c =
    let all = outcomes_of c.args.net.now in
    let many : length all ≡ length c.args.net.now.stages.items = length-map c.args.net.now.stages.items (λ (x : Stage). x.outcome) in
    sym (none-behind all c.args.i (omega arith))
