use Rattle.std.proofs.Common.{refl, ◌∙◌, arith}
use Rattle.std.proofs.lemmas.Result.{err_from_is_err_and}
use Rattle.nv_outside.proofs.WriteLemmas.{Wrote-more, Wrote-part}
use Rattle.nv_outside.proofs.sink.write_all.Goals as goal

pub loop-rest-preserved : goal.loop-rest-preserved
loop-rest-preserved g c = (rw c.split_at.ensures.back (Wrote-more _ _ _ _ _ c.in_ok-n.n c.loop-rest.invariant.0 c.in_ok-n.ensures.bytes), c.in_ok-n.ensures.count.stays refl ∙ c.loop-rest.invariant.1)

pub returns-in_err-n-clause-err : goal.returns-in_err-n-clause-err
returns-in_err-n-clause-err g c = let p = err_from_is_err_and c.from_residual.result c.from_residual.ensures.1 in rw (p.1) (Wrote-part _ _ _ _ _ (let w = c.loop-rest-test.true in grind (arith, w)) c.loop-rest.invariant.0 c.in_err-n.ensures.bytes)
