use Rattle.emit_methods_laws.proofs.NamedCode.Loading.{pages-well, words-well, fill-well, run-well}
use Rattle.emit_methods_laws.proofs.named_code.loading_names_well.Goals as goal

pub returns-clause-pages : goal.returns-clause-pages
returns-clause-pages c calls class = pages-well calls class

pub returns-clause-words : goal.returns-clause-words
returns-clause-words c calls class = words-well calls class

pub returns-clause-fill : goal.returns-clause-fill
returns-clause-fill c calls class words slots is = fill-well calls class slots words is

pub returns-clause-run : goal.returns-clause-run
returns-clause-run c calls class pages choose meter b page_texts fills pages_is fills_are choose_is =
    run-well calls class meter b page_texts pages fills choose pages_is fills_are choose_is
