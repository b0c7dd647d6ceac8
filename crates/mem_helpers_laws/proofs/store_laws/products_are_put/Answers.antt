use Rattle.mem_helpers_laws.proofs.StoreLaws.Products.{product-gives, hi-word, lo-word}
use Rattle.mem_helpers_laws.proofs.store_laws.products_are_put.Goals as goal

pub returns-clause-gives : goal.returns-clause-gives
returns-clause-gives c program words a b name order w ha hb = product-gives program words a b order w name ha hb

pub returns-clause-words : goal.returns-clause-words
returns-clause-words c name a b ha hb = (hi-word a b ha hb name, lo-word a b ha hb name)
