use Rattle.std.proofs.Common.{◌≡◌, ◌+◌, ◌-◌, sym, arith}
use Rattle.std.proofs.lemmas.List.{nil_from_length}
use Rattle.class_definition.specs.PoolChecks.{slot_size}
use Rattle.constant_pool.proofs.PoolLemmas.{entry_missed, entry_passed, entries_passed}
use Rattle.constant_pool.proofs.pool_reading.entries_miss.Goals as goal

pub returns-in-Some-entry_fault : goal.returns-in-Some-entry_fault
returns-in-Some-entry_fault c =
    let i = c.loop-entry.invariant in
    entry_missed c.args.pool.now c.loop-entry.rest.now c.in-Some.others.now c.in-Some.entry.now c.args.size i.0 c.loop-entry.left c.in-Some-entry_fault.kind _ c.in-Some.ensures.cases.0 i.1 (sym c.in-Some-entry_fault.ensures) i.2

pub loop-entry-preserved : goal.loop-entry-preserved
loop-entry-preserved c =
    let i = c.loop-entry.invariant in
    let e = c.in-Some.entry.now in
    let size : c.slot_size.result ≡ slot_size e = c.slot_size.ensures in
    let left : c.saturating_sub-left.result ≡ c.loop-entry.left - c.slot_size.result = c.saturating_sub-left.ensures in
    let place : c.saturating_sub-left.result ≡ c.args.size - (i.0 + slot_size e) = rw (left, size, i.1) (omega arith) in
    (i.0 + slot_size e, place, entry_passed c.args.pool.now c.loop-entry.rest.now c.in-Some.others.now e c.args.size i.0 _ c.in-Some.ensures.cases.0 (sym c.in_default-entry_fault.ensures) i.2)

pub returns : goal.returns
returns c =
    let i = c.loop-entry.invariant in
    entries_passed c.args.pool.now c.loop-entry.rest.now c.args.size i.0 _ (nil_from_length c.loop-entry.rest.now c.in_default.ensures.cases) i.2
