use Rattle.std.proofs.Common.{◌≡◌, ◌<◌, Some, None, length, position, sym, ◌∙◌, ap₂, rules, arith}
use Rattle.command_forms.specs.Word.{is_equals}
use Rattle.command_forms.proofs.WordLemmas.{name_alone, name_at}
use Rattle.command_forms.proofs.word.name_and_value.Goals as goal

pub returns-in-Some : goal.returns-in-Some
returns-in-Some c =
    let found : position is_equals c.args.text.now ≡ Some c.in-Some.at = search rules in
    ap₂ (λ a b. Some (a, Some b)) c.split_at.ensures.front c.split_at-in-Some.ensures.back ∙ sym (name_at c.args.text.now c.in-Some.at found)

pub returns-in-None : goal.returns-in-None
returns-in-None c =
    let none : position is_equals c.args.text.now ≡ None = search rules in
    let some : 0 < length c.args.text.now = grind arith in
    sym (name_alone c.args.text.now some none)
