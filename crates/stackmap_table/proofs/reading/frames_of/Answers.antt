use Rattle.std.proofs.Common.{◌≡◌, ◌+◌, ◌-◌, ◌++◌, ◌∷◌, [], suc, length, ap, arith}
use Rattle.std.proofs.lemmas.List.{length-append}
use Rattle.std.proofs.lemmas.Result.{err_from_is_err_and}
use Rattle.class_format.proofs.Loops.{chain_more, chain_fails, chain_done}
use Rattle.stackmap_table.specs.Tables.{frame}
use Rattle.stackmap_table.proofs.reading.frames_of.Goals as goal

pub returns-in_err-frame-clause-read : goal.returns-in_err-frame-clause-read
returns-in_err-frame-clause-read c =
    let p = err_from_is_err_and c.from_residual.result c.from_residual.ensures.1 in
    let more : c.loop-to_come.to_come ≡ suc (c.loop-to_come.to_come - 1) = omega arith in
    rw (p.1, p.2) (chain_fails {S = Unit {0}} (λ _ _. frame c.args.pool.now) (λ s _. s) c.in_err-frame.field-0.0 tt c.loop-to_come.to_come (c.loop-to_come.to_come - 1) c.loop-to_come.rest.now c.loop-to_come.frames.items _ more c.in_err-frame.ensures c.loop-to_come.invariant.0)

pub loop-to_come-preserved : goal.loop-to_come-preserved
loop-to_come-preserved c =
    let more : c.loop-to_come.to_come ≡ suc (c.loop-to_come.to_come - 1) = omega arith in
    let e : c.push.new.self.items ≡ c.loop-to_come.frames.items ++ c.in_ok-frame.frame ∷ [] = c.in_ok-push.ensures.items in
    let more-length : length c.push.new.self.items + (c.loop-to_come.to_come - 1) ≡ c.args.count = omega (arith, ap length e, length-append c.loop-to_come.frames.items (c.in_ok-frame.frame ∷ []), c.loop-to_come.invariant.1, more) in (
      rw e (chain_more {S = Unit {0}} (λ _ _. frame c.args.pool.now) (λ s _. s) tt c.loop-to_come.to_come (c.loop-to_come.to_come - 1) c.loop-to_come.rest.now c.in_ok-frame.others.now c.loop-to_come.frames.items c.in_ok-frame.frame _ more c.in_ok-frame.ensures c.loop-to_come.invariant.0),
      more-length,
    )

pub returns-clause-read : goal.returns-clause-read
returns-clause-read c = chain_done {S = Unit {0}} (λ _ _. frame c.args.pool.now) (λ s _. s) tt c.loop-to_come.to_come c.loop-to_come.rest.now c.loop-to_come.frames.items _ (omega arith) c.loop-to_come.invariant.0
