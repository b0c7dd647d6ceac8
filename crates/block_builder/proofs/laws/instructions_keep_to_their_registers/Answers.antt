use Rattle.block_builder.proofs.DependenceLemmas.{changes_only, goes_alike_where_read}
use Rattle.block_builder.proofs.laws.instructions_keep_to_their_registers.Goals as goal

pub returns-clause-writes : goal.returns-clause-writes
returns-clause-writes c = λ i s. changes_only s i

pub returns-clause-reads : goal.returns-clause-reads
returns-clause-reads c = goes_alike_where_read
