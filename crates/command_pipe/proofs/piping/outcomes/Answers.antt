use Rattle.std.proofs.Common.{◌≡◌, length, ap, arith}
use Rattle.std.proofs.lemmas.List.{length-map}
use Rattle.pipe_net.specs.Turning.{outcomes_of}
use Rattle.pipe_net.specs.declared.stage.Stage.{Stage}
use Rattle.command_pipe.proofs.ListLemmas.{eight-places}
use Rattle.command_pipe.proofs.piping.outcomes.Goals as goal

pub returns : goal.returns
returns c =
    let all = outcomes_of c.args.net.now in
    let many : length all ≡ length c.args.net.now.stages.items = length-map c.args.net.now.stages.items (λ (x : Stage). x.outcome) in
    rw (
      c.outcome_at.ensures,
      c.outcome_at-2.ensures,
      c.outcome_at-3.ensures,
      c.outcome_at-4.ensures,
      c.outcome_at-5.ensures,
      c.outcome_at-6.ensures,
      c.outcome_at-7.ensures,
      c.outcome_at-8.ensures,
    )
    (ap (λ stages. record { stages = stages }) (eight-places all (omega (arith, many, c.requires.all, c.requires.few))))
