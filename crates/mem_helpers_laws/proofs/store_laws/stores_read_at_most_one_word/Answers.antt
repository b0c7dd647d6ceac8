use Rattle.mem_helpers_laws.proofs.StoreLaws.Counts.{store-counts, conditional-counts, product-counts, fault-counts}
use Rattle.mem_helpers_laws.proofs.store_laws.stores_read_at_most_one_word.Goals as goal

pub returns : goal.returns
returns c = record {
  stores = store-counts;
  conditional = conditional-counts;
  products = product-counts;
  faults = fault-counts;
}
