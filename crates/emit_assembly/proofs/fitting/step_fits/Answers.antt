use Rattle.std.proofs.Common.{◌≡◌, ◌+◌, ◌^◌, ◌&&◌, nat_le, nat_lt, suc, length, drop, sym, ap, ◌∙◌, arith}
use Rattle.emit_steps.specs.Widths.{width, bytes_before}
use Rattle.emit_steps.proofs.Offsets.{target-is}
use Rattle.emit_assembly.specs.Operations.{is_start, step_fits}
use Rattle.emit_assembly.proofs.FitLemmas.{first-is}
use Rattle.emit_assembly.proofs.fitting.step_fits.Goals as goal

pub returns-in-Skips : goal.returns-in-Skips
returns-in-Skips c =
    let r = c.args.references.now in
    let code = c.args.code.now in
    let i = c.args.i in
    let k = c.in-Skips.k in
    let s = c.index-code-i.result in
    let others = drop (suc i) code in
    let three : width s ≡ 3 = ap width c.in-Skips.is in
    let target : bytes_before code (suc (i + k)) ≡ c.args.at + 3 + bytes_before others k = omega (arith, target-is code i k s c.requires.within c.index-code-i.is, three, c.requires.at) in
    c.skips_to_start.ensures
    ∙ ap (λ n. nat_le k (length others) && nat_lt (3 + bytes_before others k) (2 ^ 15) && is_start code n) target
    ∙ sym (first-is r code i c.args.at s c.requires.within c.index-code-i.is ∙ ap (λ x. step_fits r code c.args.at x others) c.in-Skips.is)
