use Rattle.class_names.proofs.NumberLemmas.{numbered_same}
use Rattle.class_names.proofs.numbered.numbered_class.Goals as goal

pub returns-clause-numbered : goal.returns-clause-numbered
returns-clause-numbered c =
    numbered_same c.pool_numbers.new.texts.keys c.in_ok-numbers.ensures.texts c.in_ok-numbers.numbers.items c.new.result c.as_slice.result.now c.args.class.now.pool c.new.ensures c.as_slice.ensures
    c.in_ok-numbers.ensures.numbers
