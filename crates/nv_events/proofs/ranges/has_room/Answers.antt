use Rattle.std.proofs.Common.{◌+◌, ◌-◌, ◌*◌, ◌^◌, sym, ◌∙◌, inl, inr, arith}
use Rattle.std.proofs.lemmas.Bool.{cases_lt, cases_Bool}
use Rattle.nv_events.proofs.Rooms.{not_writable_past}
use Rattle.nv_events.proofs.PageLemmas.{holds-end, can_write-all, cannot_write}
use Rattle.nv_events.proofs.ranges.has_room.Goals as goal

pub returns-in_default : goal.returns-in_default
returns-in_default g c =
    let content = g.V.View.content c.args.view.now in
    let m = g.V.View.memory content in
    let some = c.if-size-eq0.false in
    let last = c.args.place + (c.args.size - 1) in
    elim (cases_lt last (2 ^ 32)) [
      | inl less ↦ absurd (c.in_default.ensures less)
      | inr past ↦ sym (cannot_write m c.args.place c.args.size last (omega arith) (omega arith) (not_writable_past m (c.laws.ensures.written_is_readable content) (c.laws.ensures.ends content) last past))
    ]

pub returns-then-not-writable : goal.returns-then-not-writable
returns-then-not-writable g c =
    let m = g.V.View.memory (g.V.View.content c.args.view.now) in
    let some = c.if-size-eq0.false in
    let last = c.in-Some.ensures.1 in
    let from = c.loop-page.auto.page in
    let under = c.loop-page-test.true in
    sym (cannot_write m c.args.place c.args.size (c.loop-page.page * 4096 + 4095) (omega arith) (omega arith) (sym c.if-not-writable.ensures))

pub returns : goal.returns
returns g c =
    let content = g.V.View.content c.args.view.now in
    let m = g.V.View.memory content in
    let some = c.if-size-eq0.false in
    let last = c.in-Some.ensures.1 in
    let past = c.loop-page-test.false in
    elim (cases_Bool (m.writable c.in-Some.last)) [
      | inl here ↦ c.writable-2.ensures
          ∙ (here ∙ sym (can_write-all m c.args.place c.args.size (λ x low high. holds-end m.writable c.args.place c.loop-page.page c.in-Some.last (c.laws.ensures.writes_by_pages content) past c.loop-page.invariant here x low (omega arith))))
      | inr gone ↦ c.writable-2.ensures ∙ (gone ∙ sym (cannot_write m c.args.place c.args.size c.in-Some.last (omega arith) (omega arith) gone))
    ]
