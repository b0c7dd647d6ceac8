use Rattle.std.proofs.Common.{arith}
use Rattle.std.proofs.lemmas.Result.{err_from_is_err_and}
use Rattle.emit_spans.specs.Pieces.{flagged}
use Rattle.emit_spans.proofs.ErrorLemmas.{passed-on}
use Rattle.emit_spans.proofs.SizeLemmas.{span-size}
use Rattle.emit_spans.proofs.method.method_of.Goals as goal

pub returns-in_err-body-clause-too_long : goal.returns-in_err-body-clause-too_long
returns-in_err-body-clause-too_long c = λ is.
    let p = err_from_is_err_and c.from_residual.result c.from_residual.ensures.1 in
    let long = c.in_err-body.ensures.too_long (passed-on _ _ _ _ p.1 p.2 is) in
    omega (arith, long, span-size c.args.units.now (flagged c.args.leads.now) c.args.span)

pub append_words-requires-clause-body : goal.append_words-requires-clause-body
append_words-requires-clause-body c = c.in_ok-body.ensures.body c.args.units.now (flagged c.args.leads.now)

pub returns-in_err-append_words-clause-too_long : goal.returns-in_err-append_words-clause-too_long
returns-in_err-append_words-clause-too_long c = λ is.
    let p = err_from_is_err_and c.from_residual-in_err-append_words.result c.from_residual-in_err-append_words.ensures.1 in
    let long = c.in_err-append_words.ensures.too_long (passed-on _ _ _ _ p.1 p.2 is) in
    omega (arith, long, span-size c.args.units.now (flagged c.args.leads.now) c.args.span)
