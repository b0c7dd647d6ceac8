use Rattle.std.proofs.Common.{◌≡◌, ◌+◌, ◌≤◌, suc, sym, ap, ◌∙◌, arith, add-one}
use Rattle.emit_steps.specs.Widths.{width, bytes_before, size}
use Rattle.emit_steps.proofs.Offsets.{bytes-suc, next-within, ends-more}
use Rattle.emit_assembly.proofs.ends.ends_of.Goals as goal

pub width-end-requires : goal.width-end-requires
width-end-requires c =
    let within : bytes_before c.args.code.now c.loop-step.step-index + width c.step-item.result ≤ size c.args.code.now = next-within c.args.code.now c.loop-step.step-index c.step-item.result c.loop-step-test.true c.step-item.is in
    omega (arith, within)

pub overflow_add-end : goal.overflow_add-end
overflow_add-end c =
    let within : bytes_before c.args.code.now c.loop-step.step-index + width c.step-item.result ≤ size c.args.code.now = next-within c.args.code.now c.loop-step.step-index c.step-item.result c.loop-step-test.true c.step-item.is in
    omega (arith, within, c.width-end.ensures, c.loop-step.invariant.end)

pub loop-step-preserved : goal.loop-step-preserved
loop-step-preserved c =
    let code = c.args.code.now in
    let i = c.loop-step.step-index in
    let next : bytes_before code (suc i) ≡ bytes_before code i + width c.step-item.result = bytes-suc code i c.step-item.result c.loop-step-test.true c.step-item.is in
    let here : c.loop-step.end + c.width-end.result ≡ bytes_before code (suc i) = omega (arith, next, c.width-end.ensures, c.loop-step.invariant.end) in
    record {
      end = here ∙ ap (bytes_before code) (sym (add-one i));
      len = omega (arith, c.in_ok-push.ensures.len, c.loop-step.invariant.len);
      ends = ends-more code c.loop-step.ends.items c.push.new.self.items i (c.loop-step.end + c.width-end.result) c.loop-step.invariant.len c.loop-step.invariant.ends here c.in_ok-push.ensures.items;
    }
