use Rattle.std.proofs.Common.{subst, sym, ◌∙◌}
use Rattle.std.proofs.lemmas.Option.{same_Some}
use Rattle.std.proofs.lemmas.Result.{IfOk-weaker}
use Rattle.jvm_type_inference.specs.Actions.{program_over}
use Rattle.jvm_type_inference.specs.Inferred.{IsInferred, IsInferredOf}
use Rattle.jvm_type_inference.proofs.method.infer.Goals as goal

pub returns : goal.returns
returns c =
    let code = c.in_ok-code.code in
    let m = code.method.now in
    let p = program_over code.methods.now in
    IfOk-weaker c.typing_by_blocks.result (IsInferred p m) (IsInferredOf (program_over c.args.methods.now) c.args.number)
    (λ o h method is.
    subst (λ ms. IsInferred (program_over ms) method o) c.in_ok-code.ensures.methods
    (subst (λ x. IsInferred p x o) (same_Some m method (sym c.in_ok-code.ensures.method ∙ is)) h))
    c.typing_by_blocks.ensures
