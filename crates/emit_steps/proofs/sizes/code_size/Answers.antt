use Rattle.std.proofs.Common.{◌≡◌, ◌+◌, ◌≤◌, ◌^◌, suc, sym, ap, ◌∙◌, add-one, arith}
use Rattle.emit_steps.specs.Widths.{width, bytes_before, size}
use Rattle.emit_steps.proofs.Offsets.{bytes-suc, bytes-all, next-within}
use Rattle.emit_steps.proofs.SizeLemmas.{none-large, large-none, some-is, small-some}
use Rattle.emit_steps.proofs.sizes.code_size.Goals as goal

pub returns-in_err-small_width : goal.returns-in_err-small_width
returns-in_err-small_width c =
    let code = c.args.code.now in
    let s = c.step-item.result in
    let within : bytes_before code c.loop-step.step-index + width s ≤ size code = next-within code c.loop-step.step-index s c.loop-step-test.true c.step-item.is in
    let large : 2 ^ 32 ≤ width s = none-large (width s) c.in_err-small_width.ensures in
    c.from_residual.ensures ∙ large-none (size code) (omega (arith, within, large))

pub returns-in_err-size : goal.returns-in_err-size
returns-in_err-size c =
    let code = c.args.code.now in
    let s = c.step-item.result in
    let within : bytes_before code c.loop-step.step-index + width s ≤ size code = next-within code c.loop-step.step-index s c.loop-step-test.true c.step-item.is in
    let wide = some-is (width s) c.in_ok-small_width.field-0 c.in_ok-small_width.ensures in
    c.from_residual-in_err-size.ensures ∙ large-none (size code) (omega (arith, within, wide, c.loop-step.invariant.sofar, c.in_err-size.ensures))

pub loop-step-preserved : goal.loop-step-preserved
loop-step-preserved c =
    let code = c.args.code.now in
    let i = c.loop-step.step-index in
    let s = c.step-item.result in
    let next : bytes_before code (suc i) ≡ bytes_before code i + width s = bytes-suc code i s c.loop-step-test.true c.step-item.is in
    let wide = some-is (width s) c.in_ok-small_width.field-0 c.in_ok-small_width.ensures in
    let here : c.in_ok-size.size ≡ bytes_before code (suc i) = omega (arith, next, wide, c.loop-step.invariant.sofar, c.in_ok-size.ensures.1) in
    record {
      sofar = here ∙ ap (bytes_before code) (sym (add-one i));
      low = omega (arith, c.in_ok-size.ensures.0, c.in_ok-size.ensures.1);
    }

pub returns : goal.returns
returns c =
    small-some (size c.args.code.now) c.loop-step.size
    (c.loop-step.invariant.sofar ∙ bytes-all c.args.code.now c.loop-step.step-index (omega (arith, c.loop-step-test.false))) c.loop-step.invariant.low
