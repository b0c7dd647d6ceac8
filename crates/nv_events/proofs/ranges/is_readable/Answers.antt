use Rattle.std.proofs.Common.{◌+◌, ◌-◌, ◌*◌, ◌^◌, is_some, ap, sym, ◌∙◌, inl, inr, arith}
use Rattle.std.proofs.lemmas.Bool.{cases_lt, cases_Bool}
use Rattle.nv_events.proofs.PageLemmas.{holds-end, bytes_from-all, cannot_read}
use Rattle.nv_events.proofs.ranges.is_readable.Goals as goal

pub returns-in_default : goal.returns-in_default
returns-in_default g c =
    let content = g.V.View.content c.args.view.now in
    let m = g.V.View.memory content in
    let some = c.if-size-eq0.false in
    let last = c.args.at + (c.args.size - 1) in
    elim (cases_lt last (2 ^ 32)) [
      | inl less ↦ absurd (c.in_default.ensures less)
      | inr past ↦ sym (cannot_read m c.args.at c.args.size last (omega arith) (omega arith) (ap is_some (c.laws.ensures.ends content last past)))
    ]

pub returns-then-is_none : goal.returns-then-is_none
returns-then-is_none g c =
    let m = g.V.View.memory (g.V.View.content c.args.view.now) in
    let some = c.if-size-eq0.false in
    let last = c.in-Some.ensures.1 in
    let from = c.loop-page.auto.page in
    let under = c.loop-page-test.true in
    sym (cannot_read m c.args.at c.args.size (c.loop-page.page * 4096 + 4095) (omega arith) (omega arith) (ap is_some (sym c.byte.ensures) ∙ c.if-is_none.ensures))

pub returns : goal.returns
returns g c =
    let content = g.V.View.content c.args.view.now in
    let m = g.V.View.memory content in
    let some = c.if-size-eq0.false in
    let last = c.in-Some.ensures.1 in
    let past = c.loop-page-test.false in
    let is = c.is_some.ensures ∙ ap is_some c.byte-2.ensures in
    elim (cases_Bool (is_some (m.byte c.in-Some.last))) [
      | inl here ↦ is
          ∙ (here ∙ sym (bytes_from-all m c.args.at c.args.size (λ x low high. holds-end (λ a. is_some (m.byte a)) c.args.at c.loop-page.page c.in-Some.last (c.laws.ensures.reads_by_pages content) past c.loop-page.invariant here x low (omega arith))))
      | inr gone ↦ is ∙ (gone ∙ sym (cannot_read m c.args.at c.args.size c.in-Some.last (omega arith) (omega arith) gone))
    ]
