use Rattle.std.proofs.Common.{◌≡◌, false, length, sym, ◌∙◌, arith}
use Rattle.std.proofs.lemmas.Result.{IfOk-weaker}
use Rattle.class_definition.specs.Code.{is_bad_length}
use Rattle.jvm_code.proofs.DecodeLemmas.{lines_of_code, good_length, kept_lines, kept_code}
use Rattle.jvm_code.proofs.ReadBack.{one_list, are_code}
use Rattle.jvm_code.proofs.decode.decode_ops.Goals as goal

pub returns-in-Ok-clause-lines : goal.returns-in-Ok-clause-lines
returns-in-Ok-clause-lines c =
    let code = c.args.code.now in
    let good : is_bad_length (length code) ≡ false = sym c.is_bad_length.ensures ∙ c.if-is_bad_length.false in
    let are = lines_of_code code c.in-Ok.lines.items (good_length (length code) good) (λ i. omega (arith, c.type_inv.code i)) c.in-Ok.ensures in
    IfOk-weaker c.with_targets.result _ _ (λ kept p. kept_lines code c.in-Ok.lines.items kept.items are p.0) c.with_targets.ensures.accepted

pub returns-in-Ok-clause-only_lines : goal.returns-in-Ok-clause-only_lines
returns-in-Ok-clause-only_lines c =
    let code = c.args.code.now in
    let good : is_bad_length (length code) ≡ false = sym c.is_bad_length.ensures ∙ c.if-is_bad_length.false in
    let few = good_length (length code) good in
    let are = lines_of_code code c.in-Ok.lines.items few (λ i. omega (arith, c.type_inv.code i)) c.in-Ok.ensures in
    IfOk-weaker c.with_targets.result _ _ (λ kept p. λ others also. one_list code kept.items others few (kept_lines code c.in-Ok.lines.items kept.items are p.0) also) c.with_targets.ensures.accepted

pub returns-in-Ok-clause-code : goal.returns-in-Ok-clause-code
returns-in-Ok-clause-code c =
    let code = c.args.code.now in
    let good : is_bad_length (length code) ≡ false = sym c.is_bad_length.ensures ∙ c.if-is_bad_length.false in
    let few = good_length (length code) good in
    let are = lines_of_code code c.in-Ok.lines.items few (λ i. omega (arith, c.type_inv.code i)) c.in-Ok.ensures in
    let made = are_code code c.in-Ok.lines.items good few are in
    IfOk-weaker c.with_targets.result _ _ (λ kept p. kept_code c.in-Ok.lines.items kept.items p.0 (made p.1)) c.with_targets.ensures.accepted
