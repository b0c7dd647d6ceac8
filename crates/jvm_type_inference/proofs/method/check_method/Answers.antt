use Rattle.std.proofs.Common.{subst, sym, ◌∙◌}
use Rattle.std.proofs.lemmas.Option.{same_Some}
use Rattle.std.proofs.lemmas.Result.{IfOk-weaker}
use Rattle.jvm_type_inference.specs.Actions.{program_over}
use Rattle.jvm_type_inference.specs.Verdict.{IsVerdict, IsVerdictOf}
use Rattle.jvm_type_inference.proofs.method.check_method.Goals as goal

pub returns : goal.returns
returns c =
    let code = c.in_ok-code.code in
    let m = code.method.now in
    let p = program_over code.methods.now in
    IfOk-weaker c.verdict_by_blocks.result (IsVerdict p m) (IsVerdictOf (program_over c.args.methods.now) c.args.number)
    (λ o h method is.
    subst (λ ms. IsVerdict (program_over ms) method o) c.in_ok-code.ensures.methods
    (subst (λ x. IsVerdict p x o) (same_Some m method (sym c.in_ok-code.ensures.method ∙ is)) h))
    c.verdict_by_blocks.ensures
