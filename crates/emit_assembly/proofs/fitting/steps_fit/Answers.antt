use Rattle.std.proofs.Common.{◌≡◌, ◌+◌, true, drop, get_or, sym, ap, ◌∙◌, add-one, arith}
use Rattle.emit_steps.specs.Widths.{width, bytes_before}
use Rattle.emit_steps.proofs.Offsets.{bytes-suc}
use Rattle.emit_assembly.specs.Operations.{first_fits, steps_fit}
use Rattle.emit_assembly.proofs.FitLemmas.{next-left}
use Rattle.emit_assembly.proofs.fitting.steps_fit.Goals as goal

pub loop-i-preserved : goal.loop-i-preserved
loop-i-preserved c =
    let r = c.args.references.now in
    let code = c.args.code.now in
    let i = c.loop-i.i in
    let at = c.loop-i.at in
    let s = c.index-code-i.result in
    let end = c.requires.ends.each i c.loop-i-test.true in
    let next : get_or c.args.ends.now i 0 ≡ at + width s = omega (arith, end, c.loop-i.invariant.at, bytes-suc code i s c.loop-i-test.true c.index-code-i.is) in
    let fits : first_fits r code at (drop i code) ≡ true = sym c.step_fits.ensures ∙ c.if-not-step_fits.false in
    record {
      at = end ∙ ap (bytes_before code) (sym (add-one i));
      left = next-left r code i at s c.loop-i-test.true c.index-code-i.is (get_or c.args.ends.now i 0) next fits (steps_fit r code 0 code) c.loop-i.invariant.left;
    }
