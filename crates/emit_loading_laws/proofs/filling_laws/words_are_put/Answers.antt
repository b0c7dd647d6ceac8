use Rattle.emit_loading_laws.proofs.FillingLaws.Putting.{puts-words, passes-over}
use Rattle.emit_loading_laws.proofs.filling_laws.words_are_put.Goals as goal

pub returns-clause-put : goal.returns-clause-put
returns-clause-put c program words own m class slot p old given w caller others differ lies chars_are words_are few array_is text_is there =
    puts-words c.code_is_a_path.ensures.elsewhere program words own m class slot p old w.operands w.fields w.heap caller others differ lies there w.locals array_is text_is given chars_are words_are few

pub returns-clause-absent : goal.returns-clause-absent
returns-clause-absent c program words own m w caller others differ lies is =
    passes-over c.code_is_a_path.ensures.elsewhere program words own m w caller others differ lies is
