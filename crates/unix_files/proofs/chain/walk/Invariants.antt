use Rattle.std.proofs.Common.{◌≡◌}
use Rattle.unix_files.specs.Stored.{block_after}
use Rattle.unix_files.proofs.chain.walk.Given as goal

abbrev pub invariant-loop : goal.invariant-loop
invariant-loop l = l.block ≡ block_after l.pool l.from l.counter
