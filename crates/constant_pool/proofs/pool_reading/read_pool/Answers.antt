use Rattle.std.proofs.Common.{◌≡◌, ◌+◌, drop, refl, ap, arith}
use Rattle.class_definition.specs.PoolChecks.{pool}
use Rattle.constant_pool.proofs.EntryLaws.{pool_law}
use Rattle.constant_pool.proofs.ReadingLemmas.{taken_at, read_at, same_read}
use Rattle.constant_pool.proofs.pool_reading.read_pool.Goals as goal

pub overflow_sub-result : goal.overflow_sub-result
overflow_sub-result c =
    (taken_at pool c.args.b.now c.args.at c.from_place-bytes.result.now c.in-Ok.slots c.in-Ok.rest.now pool_law (λ i. omega (arith, c.type_inv.b i)) c.from_place-bytes.ensures c.in-Ok.ensures).le

pub returns-in-Ok-clause-spelled : goal.returns-in-Ok-clause-spelled
returns-in-Ok-clause-spelled c =
    let e : c.into_entries.result.items ≡ c.in-Ok.slots = c.into_entries.ensures in
    rw e (taken_at pool c.args.b.now c.args.at c.from_place-bytes.result.now c.in-Ok.slots c.in-Ok.rest.now pool_law (λ i. omega (arith, c.type_inv.b i)) c.from_place-bytes.ensures c.in-Ok.ensures).begins

pub returns-in-Ok-clause-place : goal.returns-in-Ok-clause-place
returns-in-Ok-clause-place c =
    let e : c.into_entries.result.items ≡ c.in-Ok.slots = c.into_entries.ensures in
    rw e (ap (λ n. c.args.at + n) (taken_at pool c.args.b.now c.args.at c.from_place-bytes.result.now c.in-Ok.slots c.in-Ok.rest.now pool_law (λ i. omega (arith, c.type_inv.b i)) c.from_place-bytes.ensures c.in-Ok.ensures).place)

pub returns-in-Ok-clause-found : goal.returns-in-Ok-clause-found
returns-in-Ok-clause-found c = λ entries rest t.
    let r = read_at pool c.args.b.now c.args.at (drop c.args.at c.args.b.now) entries rest pool_law refl t in
    let s = read_at pool c.args.b.now c.args.at c.from_place-bytes.result.now entries rest pool_law c.from_place-bytes.ensures t in
    let e : c.into_entries.result.items ≡ c.in-Ok.slots = c.into_entries.ensures in
    (rw r refl, rw e (same_read _ _ _ _ _ c.in-Ok.ensures s))

pub returns-in-Err-clause-found : goal.returns-in-Err-clause-found
returns-in-Err-clause-found c = λ entries rest t.
    let r = read_at pool c.args.b.now c.args.at (drop c.args.at c.args.b.now) entries rest pool_law refl t in
    (rw r refl, tt)
