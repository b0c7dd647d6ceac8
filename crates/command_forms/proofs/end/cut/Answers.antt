use Rattle.std.proofs.Common.{◌≡◌, ◌∙◌, rules, ap, Some, None, position, string_bytes}
use Rattle.command_forms.specs.Word.{is_end_of_words, texts}
use Rattle.command_forms.proofs.EndLemmas.{cut_after, cut_before, none_after, whole_before}
use Rattle.command_forms.proofs.end.cut.Goals as goal

pub returns-in-Some-clause-before : goal.returns-in-Some-clause-before
returns-in-Some-clause-before c =
    let found : position (λ w. is_end_of_words (string_bytes w)) c.args.words.now ≡ Some c.in-Some.at = search rules in
    ap texts c.split_at.ensures.front ∙ cut_before c.args.words.now c.in-Some.at found

pub returns-in-Some-clause-after : goal.returns-in-Some-clause-after
returns-in-Some-clause-after c =
    let found : position (λ w. is_end_of_words (string_bytes w)) c.args.words.now ≡ Some c.in-Some.at = search rules in
    ap texts c.split_at-in-Some.ensures.back ∙ cut_after c.args.words.now c.in-Some.at found

pub returns-in-None-clause-before : goal.returns-in-None-clause-before
returns-in-None-clause-before c =
    let none : position (λ w. is_end_of_words (string_bytes w)) c.args.words.now ≡ None = search rules in
    whole_before c.args.words.now none

pub returns-in-None-clause-after : goal.returns-in-None-clause-after
returns-in-None-clause-after c =
    let none : position (λ w. is_end_of_words (string_bytes w)) c.args.words.now ≡ None = search rules in
    none_after c.args.words.now none
