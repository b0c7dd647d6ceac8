use Rattle.std.proofs.Common.{◌≡◌, ◌-◌, ◌++◌, ◌∷◌, [], suc, arith}
use Rattle.std.proofs.lemmas.Result.{err_from_is_err_and}
use Rattle.class_format.proofs.Loops.{chain_more, chain_fails, chain_done}
use Rattle.class_definition.specs.PoolEntries.{slot, is_long_entry}
use Rattle.constant_pool.proofs.pool_reading.slots_of.Goals as goal

pub returns-in_err-entry : goal.returns-in_err-entry
returns-in_err-entry c =
    let p = err_from_is_err_and c.from_residual.result c.from_residual.ensures.1 in
    let more : c.loop-to_come.to_come ≡ suc (c.loop-to_come.to_come - 1) = omega arith in
    rw (p.1, p.2) (chain_fails slot (λ _ e. is_long_entry e) c.in_err-entry.field-0.0 c.loop-to_come.after_long c.loop-to_come.to_come (c.loop-to_come.to_come - 1) c.loop-to_come.rest.now c.loop-to_come.entries.items _ more c.in_err-entry.ensures c.loop-to_come.invariant)

pub loop-to_come-preserved : goal.loop-to_come-preserved
loop-to_come-preserved c =
    let more : c.loop-to_come.to_come ≡ suc (c.loop-to_come.to_come - 1) = omega arith in
    let e : c.push.new.self.items ≡ c.loop-to_come.entries.items ++ c.in_ok-entry.entry ∷ [] = c.in_ok-push.ensures.items in
    rw (e, c.is_long-after_long.ensures) (chain_more slot (λ _ e. is_long_entry e) c.loop-to_come.after_long c.loop-to_come.to_come (c.loop-to_come.to_come - 1) c.loop-to_come.rest.now c.in_ok-entry.others.now c.loop-to_come.entries.items c.in_ok-entry.entry _ more c.in_ok-entry.ensures c.loop-to_come.invariant)

pub returns : goal.returns
returns c = chain_done slot (λ _ e. is_long_entry e) c.loop-to_come.after_long c.loop-to_come.to_come c.loop-to_come.rest.now c.loop-to_come.entries.items _ (omega arith) c.loop-to_come.invariant
