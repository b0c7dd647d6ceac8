use Rattle.std.proofs.Common.{◌≡◌, ◌≢◌, ℕ, ◌+◌, ◌<◌}
use Rattle.block_pool.specs.Blocks.{IsSound, block_at, free_count}
use Rattle.unix_files.specs.Stored.{block_after}
use Rattle.unix_files.proofs.chain.release.Given as goal

abbrev pub invariant-loop : goal.invariant-loop
invariant-loop l = record {
  here : l.block ≡ block_after l.fn.pool l.first l.counter;
  sound : IsSound l.pool;
  others : (b : ℕ) → ((k : ℕ) → k < l.counter → block_after l.fn.pool l.first k ≢ b) → block_at l.pool b ≡ block_at l.fn.pool b;
  free : free_count l.pool ≡ free_count l.fn.pool + l.counter;
}
