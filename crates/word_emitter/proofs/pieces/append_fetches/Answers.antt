use Rattle.std.proofs.Common.{◌++◌, ℕ, List, [], if◌then◌else◌, ap, ◌∙◌, arith}
use Rattle.emit_steps.specs.declared.step.Step.{Step}
use Rattle.word_emitter.specs.Pieces.{is_needed, fetched}
use Rattle.word_emitter.proofs.RegisterLemmas.{register-done}
use Rattle.word_emitter.proofs.pieces.append_fetches.Goals as goal

pub loop-r-preserved : goal.loop-r-preserved
loop-r-preserved c =
    let code : ℕ → List Step = λ r. if is_needed c.args.units.now r then fetched r else [] in
    let r = c.loop-r.r in
    let done = c.in_ok-append_fetched.ensures ∙ ap (λ b. c.loop-r.code.items ++ (if b then fetched r else [])) (c.has.ensures ∙ c.needed-needed.ensures r (omega (arith, c.loop-r-test.true))) in
    register-done code r c.loop-r.code.items _ _ c.loop-r-test.true done c.loop-r.invariant
