use Rattle.emit_methods_laws.proofs.WholeCode.Programs.{of_nothing}
use Rattle.emit_methods_laws.proofs.WholeCode.Loading.{pages-can-be, words-can-be, fill-can-be, run-can-be}
use Rattle.emit_methods_laws.proofs.whole.loading_is_whole.Goals as goal

pub returns-clause-pages : goal.returns-clause-pages
returns-clause-pages c r fields = pages-can-be r fields (c.loading_is_typed.ensures.pages of_nothing)

pub returns-clause-words : goal.returns-clause-words
returns-clause-words c r fields = words-can-be r fields (c.loading_is_typed.ensures.words of_nothing)

pub returns-clause-fill : goal.returns-clause-fill
returns-clause-fill c r slots class words fields few is = fill-can-be r fields slots class words few is

pub returns-clause-run : goal.returns-clause-run
returns-clause-run c r meter b page_texts class pages fills choose have few_texts few_fills pages_is fills_are choose_is =
    run-can-be r meter b page_texts class pages fills choose have few_texts few_fills pages_is fills_are choose_is
