use Rattle.std.proofs.Common.{rules, sym, ◌∙◌}
use Rattle.command_words.proofs.NameLemmas.{once, twice}
use Rattle.command_words.proofs.names.+all_different.Goals as goal

pub returns-then-is_among : goal.returns-then-is_among
returns-then-is_among t c = sym (twice c.args.names.now c.in-Some.others.now c.in-Some.name.now (search rules) (search rules))

pub returns-else-is_among : goal.returns-else-is_among
returns-else-is_among t c =
    c.all_different.ensures ∙ sym (once c.args.names.now c.in-Some.others.now c.in-Some.name.now (search rules) (search rules))
