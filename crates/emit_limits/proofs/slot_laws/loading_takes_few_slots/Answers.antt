use Rattle.emit_limits.proofs.LoadingSlots.{pages-few, words-few, fill-few, run-few}
use Rattle.emit_limits.proofs.slot_laws.loading_takes_few_slots.Goals as goal

pub returns-clause-pages : goal.returns-clause-pages
returns-clause-pages c = pages-few

pub returns-clause-words : goal.returns-clause-words
returns-clause-words c = words-few

pub returns-clause-fills : goal.returns-clause-fills
returns-clause-fills c slots class words = fill-few slots class words

pub returns-clause-run : goal.returns-clause-run
returns-clause-run c b page_texts class pages fills choose = run-few b page_texts class pages fills choose
