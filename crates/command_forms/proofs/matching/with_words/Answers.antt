use Rattle.std.proofs.Common.{◌≡◌, ◌∙◌, ◌+◌, ap, rules}
use Rattle.clap.specs.Words.{app_of, rule_of, with_rule}
use Rattle.command_forms.specs.Builder.{word_rule}
use Rattle.command_forms.proofs.MatchLemmas.{words_step}
use Rattle.command_forms.proofs.matching.with_words.Goals as goal

pub loop-place-preserved : goal.loop-place-preserved
loop-place-preserved c =
    let rule : rule_of c.index.result ≡ word_rule (c.loop-place.place + 1) c.new.result.id.now = search rules in
    words_step c.args.names.now c.loop-place.place c.new.result.id (app_of c.args.parser) (app_of c.loop-place.parser) (app_of c.in_ok-parser.parser)
    (search rules) (search rules) c.loop-place.invariant (c.in_ok-parser.ensures.shape (search rules) ∙ ap (with_rule (app_of c.loop-place.parser)) rule)
