use Rattle.std.proofs.Common.{◌≡◌, ◌*◌, take}
use Rattle.unix_files.specs.Stored.{block_after, file_bytes}
use Rattle.unix_files.proofs.chain.Chain.bytes.Given as goal

abbrev pub invariant-loop-index : goal.invariant-loop-index
invariant-loop-index l = record { block : l.block ≡ block_after l.pool l.self.first l.index; bytes : l.bytes.items ≡ take (4096 * l.index) (file_bytes l.pool l.self) }
