use Rattle.std.proofs.Common.{◌∙◌, sym}
use Rattle.emit_assembly.proofs.FitLemmas.{is-code}
use Rattle.emit_assembly.proofs.fitting.is_code.Goals as goal

pub returns-in_ok-ends : goal.returns-in_ok-ends
returns-in_ok-ends c =
    c.steps_fit.ensures ∙ is-code c.args.references.now c.args.code.now (sym c.is_short.ensures ∙ c.if-is_short.true)
