use Rattle.std.proofs.Common.{◌≡◌, ◌∙◌, ap, rules}
use Rattle.clap.specs.Words.{app_of, rule_of, with_rule}
use Rattle.command_forms.specs.Builder.{option_rule}
use Rattle.command_forms.proofs.MatchLemmas.{options_step}
use Rattle.command_forms.proofs.matching.with_options.Goals as goal

pub loop-name-preserved : goal.loop-name-preserved
loop-name-preserved c =
    let rule : rule_of c.long.result ≡ option_rule c.new.result.id.now = search rules in
    options_step c.args.options.now c.loop-name.name-index c.new.result.id (app_of c.args.parser) (app_of c.loop-name.parser) (app_of c.in_ok-parser.parser)
    (search rules) (search rules) c.loop-name.invariant (c.in_ok-parser.ensures.shape (search rules) ∙ ap (with_rule (app_of c.loop-name.parser)) rule)
