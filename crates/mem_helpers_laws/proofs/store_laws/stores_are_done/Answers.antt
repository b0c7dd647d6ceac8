use Rattle.mem_helpers_laws.proofs.StoreLaws.AllStores.{store-gives}
use Rattle.mem_helpers_laws.proofs.store_laws.stores_are_done.Goals as goal

pub returns : goal.returns
returns c program words pc value a readable writable name order memory w value_word it =
    store-gives program words pc value a readable writable order memory w value_word it.is_word it.held name
    it.aligned it.allowed
