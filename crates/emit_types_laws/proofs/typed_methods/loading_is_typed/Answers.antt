use Rattle.emit_types_laws.proofs.TypedMethods.Loading.{words-typed, pages-typed, fill-typed, run-typed}
use Rattle.emit_types_laws.proofs.typed_methods.loading_is_typed.Goals as goal

pub returns-clause-words : goal.returns-clause-words
returns-clause-words c program = words-typed program

pub returns-clause-pages : goal.returns-clause-pages
returns-clause-pages c program = pages-typed program

pub returns-clause-fill : goal.returns-clause-fill
returns-clause-fill c program slots class words h = fill-typed program slots class words h

pub returns-clause-run : goal.returns-clause-run
returns-clause-run c program meter b page_texts class pages fills choose makes fill chooses = run-typed program meter b page_texts class pages fills choose
    makes fill chooses
