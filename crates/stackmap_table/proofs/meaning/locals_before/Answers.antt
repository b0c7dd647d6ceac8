use Rattle.std.proofs.Common.{◌≡◌, sym, ap, ◌∙◌}
use Rattle.std.proofs.lemmas.Result.{IfOk-weaker}
use Rattle.stackmap_table.specs.Last.{last_locals}
use Rattle.stackmap_table.proofs.MeaningLaws.{locals-empty, locals-pushed}
use Rattle.stackmap_table.proofs.meaning.locals_before.Goals as goal

pub returns-in-None : goal.returns-in-None
returns-in-None c =
    let p = c.args.method.now.parameters in
    IfOk-weaker c.from_slice.result (λ s. s ≡ c.as_slice.result.now) (λ s. s ≡ last_locals p c.args.listed.now)
    (λ s is. is ∙ (c.as_slice.ensures ∙ sym (locals-empty p c.args.listed.now c.in-None.ensures.cases)))
    c.from_slice.ensures

pub returns-in-Some : goal.returns-in-Some
returns-in-Some c =
    let p = c.args.method.now.parameters in
    let last = c.in-Some.last.now in
    IfOk-weaker c.shared.result (λ s. s ≡ last.1.locals) (λ s. s ≡ last_locals p c.args.listed.now)
    (λ s is. is ∙ (sym (locals-pushed p c.in-Some._others.now last.0 last.1) ∙ ap (last_locals p) (sym c.in-Some.ensures.cases.0)))
    c.shared.ensures
