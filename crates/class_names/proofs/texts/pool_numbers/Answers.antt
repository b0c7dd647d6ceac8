use Rattle.class_names.proofs.NumberLemmas.{numbers_more}
use Rattle.class_names.proofs.texts.pool_numbers.Goals as goal

pub loop-entry-preserved : goal.loop-entry-preserved
loop-entry-preserved c = record {
  are =
      numbers_more c.loop-entry.texts.keys c.entry_number.new.texts.keys c.in_ok-number.ensures.kept c.args.pool.now c.loop-entry.entry-index c.in_ok-number.number c.entry-item.result
      c.loop-entry.numbers.items c.push.new.self.items c.loop-entry-test.true c.entry-item.is c.loop-entry.invariant.are c.in_ok-number.ensures.number c.in_ok-push.ensures.items;
  texts = c.in_ok-number.ensures.texts;
  kept = λ n text h. c.in_ok-number.ensures.kept n text (c.loop-entry.invariant.kept n text h);
}
