use Rattle.std.proofs.Common.{rules, ◌≡◌, ◌∷◌, Some}
use Rattle.command_deeds.proofs.StageLemmas.{writes-behind}
use Rattle.command_deeds.proofs.line.+write_stages.Goals as goal

pub returns-in_ok-write_stage-in-Some-stage : goal.returns-in_ok-write_stage-in-Some-stage
returns-in_ok-write_stage-in-Some-stage g t c =
    let is : c.args.stages.now ≡ Some c.in-Some-stage.ended ∷ c.in-Some.later.now = search rules in
    rw is (record { writes = writes-behind _ _ _ _ _ _ c.in_ok-write_stage-in-Some-stage.ensures.writes c.write_stages.ensures.writes })
