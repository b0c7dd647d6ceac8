use Rattle.std.proofs.Common.{◌≡◌}
use Rattle.class_definition.specs.Format.{chain_reading}
use Rattle.class_format.proofs.Loops.{with_front}
use Rattle.class_definition.specs.PoolEntries.{slot, slots, is_long_entry}
use Rattle.constant_pool.proofs.pool_reading.slots_of.Given as goal

abbrev pub invariant-loop-to_come : goal.invariant-loop-to_come
invariant-loop-to_come l =
    with_front l.entries.items (chain_reading slot (λ _ e. is_long_entry e) l.after_long l.to_come l.rest) ≡ (slots l.count).read l.bytes

abbrev pub decreases-loop-to_come : goal.decreases-loop-to_come
decreases-loop-to_come l = l.to_come
