use Rattle.mem_helpers_laws.proofs.StoreLaws.Refusals.{unaligned-store, refused-store}
use Rattle.mem_helpers_laws.proofs.store_laws.faulty_stores_end_the_run.Goals as goal

pub returns : goal.returns
returns c name = record {
  unaligned = λ program words pc value a order w helpers is_word test.
      unaligned-store program words pc value a order w is_word helpers name test;
  refused = λ program words pc value a readable writable order memory w helpers is_word tables aligned refused.
      refused-store program words pc value a order w is_word helpers name readable writable memory tables aligned
      refused;
}
