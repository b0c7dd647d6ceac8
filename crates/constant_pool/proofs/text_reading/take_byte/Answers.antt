use Rattle.std.proofs.Common.{sym}
use Rattle.constant_pool.proofs.TextLemmas.{taken_more, taken_character, taken_wrong}
use Rattle.constant_pool.proofs.text_reading.take_byte.Goals as goal

pub returns-in-More-clause-goes_on : goal.returns-in-More-clause-goes_on
returns-in-More-clause-goes_on c = λ rest. taken_more c.args.text.now.items c.args.partial c.in-More.next c.args.byte rest (sym c.in-More.ensures)

pub returns-in_ok-push-in-Character-clause-goes_on :
    goal.returns-in_ok-push-in-Character-clause-goes_on
returns-in_ok-push-in-Character-clause-goes_on c = λ rest. rw c.in_ok-push-in-Character.ensures.items (taken_character c.args.text.now.items c.args.partial c.in-Character.character c.args.byte rest (sym c.in-Character.ensures))

pub returns-in-Wrong-clause-goes_on : goal.returns-in-Wrong-clause-goes_on
returns-in-Wrong-clause-goes_on c = λ rest. taken_wrong c.args.text.now.items c.args.partial c.args.byte rest (sym c.in-Wrong.ensures)
