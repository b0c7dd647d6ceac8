use Rattle.std.proofs.Common.{◌≡◌, ◌+◌, ◌++◌, ap, ◌∙◌, arith}
use Rattle.emit_steps.specs.Widths.{size}
use Rattle.emit_spans.specs.Pieces.{flagged}
use Rattle.emit_spans.specs.Laying.{laid_out, targets_of, span_code}
use Rattle.emit_spans.proofs.SizeLemmas.{span-size}
use Rattle.emit_spans.proofs.method.finished.Goals as goal

pub returns-then-end-ge-MOST_BYTES-clause-too_long : goal.returns-then-end-ge-MOST_BYTES-clause-too_long
returns-then-end-ge-MOST_BYTES-clause-too_long c = λ is.
    omega (
      arith,
      span-size c.args.units.now (flagged c.args.leads.now) c.args.span,
      c.requires.body.warm_end,
      c.requires.body.cold_end,
      c.if-end-ge-MOST_BYTES.true,
    )

pub returns-clause-small : goal.returns-clause-small
returns-clause-small c =
    let units = c.args.units.now in
    let leads = flagged c.args.leads.now in
    let span = c.args.span in
    let body = c.requires.body in
    let targets : c.deref-2.result.now ≡ targets_of units leads span = c.deref-2.ensures.value ∙ c.in_ok-targets.ensures in
    let code : c.in_ok-code.code.items ≡ span_code units leads span = c.in_ok-code.ensures
    ∙ (λ i. laid_out (c.extent.ensures i) (targets i) (body.warm_end i + body.cold_end i) (body.warm i ++ body.cold i)) in
    omega (arith, ap size code, span-size units leads span, body.warm_end, body.cold_end, c.if-end-ge-MOST_BYTES.false)
