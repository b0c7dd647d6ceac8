use Rattle.std.proofs.Common.{◌==◌, ◌++◌, ℕ, List, [], if◌then◌else◌, ap, ◌∙◌}
use Rattle.std.specs.Int.{bit_at}
use Rattle.emit_steps.specs.declared.step.Step.{Step}
use Rattle.word_emitter.specs.Pieces.{is_written, put_back}
use Rattle.word_emitter.proofs.RegisterLemmas.{register-done}
use Rattle.word_emitter.proofs.SetLemmas.{has_written}
use Rattle.word_emitter.proofs.pieces.append_put_backs.Goals as goal

pub loop-r-preserved : goal.loop-r-preserved
loop-r-preserved c =
    let code : ℕ → List Step = λ r. if is_written c.args.units.now r then put_back r else [] in
    let r = c.loop-r.r in
    let done = c.in_ok-append_put_back.ensures ∙ ap (λ b. c.loop-r.code.items ++ (if b then put_back r else [])) (c.has.ensures ∙ ap (λ n. bit_at n r == 1) c.written-written.ensures ∙ has_written c.args.units.now r) in
    register-done code r c.loop-r.code.items _ _ c.loop-r-test.true done c.loop-r.invariant
