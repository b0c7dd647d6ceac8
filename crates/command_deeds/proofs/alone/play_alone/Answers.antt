use Rattle.std.proofs.Common.{[], ◌∷◌, sym, ap, ◌∙◌}
use Rattle.run_definition.specs.Run.{run_of}
use Rattle.unix_definition.specs.Unix.{reply}
use Rattle.command_deeds.specs.Runs.{answer_of}
use Rattle.command_deeds.proofs.alone.play_alone.Goals as goal

pub returns : goal.returns
returns g c =
    sym (ap (λ k. answer_of (run_of g.M.Machine.turn reply c.args.steps (g.M.Machine.state c.args.machine) k).outcome)
    (c.begins_at_start.ensures c.in_ok-unix.unix 1024 c.args.moment [] (c.args.name.now ∷ []) [] c.in_ok-unix.ensures.begins))
    ∙ ap answer_of c.in-Ok.ensures.plays.1.is
    ∙ c.answer_of.ensures
