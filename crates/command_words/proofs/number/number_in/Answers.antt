use Rattle.std.proofs.Common.{◌≡◌, true, rules, sym}
use Rattle.command_words.specs.Values.{is_number_text}
use Rattle.command_words.proofs.NumberLemmas.{number_overflows}
use Rattle.command_words.proofs.number.number_in.Goals as goal

pub returns-in_default-3 : goal.returns-in_default-3
returns-in_default-3 c =
    let number : is_number_text c.args.text.now ≡ true = grind rules in
    sym (number_overflows c.args.least c.args.most c.args.text.now (search rules) number c.in_default.ensures.value.0)
