use Rattle.std.proofs.Common.{◌≡◌, ◌∙◌, rules, is_some, position, string_bytes}
use Rattle.command_forms.specs.Word.{is_end_of_words}
use Rattle.command_forms.proofs.EndLemmas.{end_found}
use Rattle.command_forms.proofs.end.has_end.Goals as goal

pub returns : goal.returns
returns c =
    let is : c.is_some.result ≡ is_some (position (λ w. is_end_of_words (string_bytes w)) c.args.words.now) = grind rules in
    is ∙ end_found c.args.words.now
