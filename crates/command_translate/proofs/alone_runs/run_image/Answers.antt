use Rattle.std.proofs.Common.{◌≡◌, Some, subst}
use Rattle.std.specs.Prelude.{IfOk}
use Rattle.mips_definition.specs.Step.{turn}
use Rattle.command_deeds.specs.Runs.{answer_of, run_alone}
use Rattle.command_translate.specs.Make.{made_name}
use Rattle.command_translate.proofs.alone_runs.run_image.Goals as goal

pub returns : goal.returns
returns c =
    subst (λ s. IfOk c.play_alone.result (λ end. answer_of (run_alone c.args.steps turn s made_name c.args.moment).outcome ≡ Some end))
    c.in_ok-mips.ensures.state c.play_alone.ensures
