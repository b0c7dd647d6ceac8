use Rattle.std.proofs.Common.{◌≡◌, ℕ, ◌-◌, length}
use Rattle.class_definition.specs.PoolChecks as checks
use Rattle.constant_pool.specs.Answer.{missed_by}
use Rattle.constant_pool.proofs.pool_reading.entries_miss.Given as goal

-- the entries that are left stand at an offset
abbrev pub invariant-loop-entry : goal.invariant-loop-entry
invariant-loop-entry l =
    (at : ℕ) × (l.left ≡ l.size - at)
    × (missed_by l.size (checks.pool_entries_fault l.pool l.rest at) ≡ missed_by l.size (checks.pool_entries_fault l.pool l.pool 0))

abbrev pub decreases-loop-entry : goal.decreases-loop-entry
decreases-loop-entry l = length l.rest
