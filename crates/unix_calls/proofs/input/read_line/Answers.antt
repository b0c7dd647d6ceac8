use Rattle.std.proofs.Common.{◌+◌, refl, ◌∙◌, arith}
use Rattle.std.proofs.lemmas.Bool.{ne_eqb}
use Rattle.std.proofs.lemmas.Result.{err_from_is_err_and}
use Rattle.nv_events.proofs.Rooms.{below_end, writable_in}
use Rattle.unix_calls.proofs.DrawLemmas.{reading-start, reading-more, reading-closed, reading-ends, reading-long, reading-failed}
use Rattle.unix_calls.proofs.input.read_line.Goals as goal

pub loop-i-init : goal.loop-i-init
loop-i-init g c = record { same_room = λ x. refl; reading = reading-start g.M.View.put_at (g.M.View.content c.args.view.now) c.args.place c.args.count c.args.ahead.now (g.S.Source.rest c.args.source.now); faults = refl }

pub overflow_add-place : goal.overflow_add-place
overflow_add-place g c =
    let content = g.M.View.content c.args.view.now in
    let m = g.M.View.memory content in
    let b = below_end m (c.laws.ensures.written_is_readable content) (c.laws.ensures.ends content) (c.args.place + c.loop-i.i) (writable_in m c.args.place c.args.count c.loop-i.i c.requires c.loop-i-test.true) in
    omega (arith, b)

pub returns-in_err-next-clause-err : goal.returns-in_err-next-clause-err
returns-in_err-next-clause-err g c =
    let p = err_from_is_err_and c.from_residual.result c.from_residual.ensures.1 in
    rw (p.1) (reading-failed g.M.View.put_at (g.M.View.content c.args.view.now) c.args.place c.args.count c.args.ahead.now (g.S.Source.rest c.args.source.now) (g.M.View.content c.loop-i.view) c.loop-i.ahead c.next.new.self (g.S.Source.rest c.loop-i.source) (g.S.Source.rest c.next.new.source) c.loop-i.i c.loop-i.invariant.reading c.in_err-next.ensures.drawn)

pub returns-in-None-clause-ok : goal.returns-in-None-clause-ok
returns-in-None-clause-ok g c =
    let d = rw c.in-None.is at c.in_ok-next.ensures.drawn in
    reading-ends g.M.View.put_at (g.M.View.content c.args.view.now) c.args.place c.args.count c.args.ahead.now (g.S.Source.rest c.args.source.now) (g.M.View.content c.loop-i.view) c.loop-i.ahead c.next.new.self (g.S.Source.rest c.loop-i.source) (g.S.Source.rest c.next.new.source) c.loop-i.i c.loop-i.invariant.reading d.0 d.1 d.2

pub put_byte-requires : goal.put_byte-requires
put_byte-requires g c =
    c.loop-i.invariant.same_room (c.args.place + c.loop-i.i) ∙ writable_in (g.M.View.memory (g.M.View.content c.args.view.now)) c.args.place c.args.count c.loop-i.i c.requires c.loop-i-test.true

pub returns-then-b-eq-NEWLINE-clause-ok : goal.returns-then-b-eq-NEWLINE-clause-ok
returns-then-b-eq-NEWLINE-clause-ok g c =
    let d = rw c.in-Some.is at c.in_ok-next.ensures.drawn in
    reading-closed g.M.View.put_at (g.M.View.content c.args.view.now) c.args.place c.args.count c.args.ahead.now (g.S.Source.rest c.args.source.now) (g.M.View.content c.loop-i.view) (g.M.View.content c.put_byte.new.view) c.loop-i.ahead c.next.new.self (g.S.Source.rest c.loop-i.source) (g.S.Source.rest c.next.new.source) c.loop-i.i c.in-Some.b c.loop-i.invariant.reading c.loop-i-test.true c.put_byte.ensures.small d c.put_byte.ensures.after c.if-b-eq-NEWLINE.true

pub loop-i-preserved : goal.loop-i-preserved
loop-i-preserved g c =
    let d = rw c.in-Some.is at c.in_ok-next.ensures.drawn in
    record {
      same_room = λ x. c.put_byte.ensures.same_room x ∙ c.loop-i.invariant.same_room x;
      reading = reading-more g.M.View.put_at (g.M.View.content c.args.view.now) c.args.place c.args.count c.args.ahead.now (g.S.Source.rest c.args.source.now) (g.M.View.content c.loop-i.view) (g.M.View.content c.put_byte.new.view) c.loop-i.ahead c.next.new.self (g.S.Source.rest c.loop-i.source) (g.S.Source.rest c.next.new.source) c.loop-i.i c.in-Some.b c.loop-i.invariant.reading c.loop-i-test.true c.put_byte.ensures.small d c.put_byte.ensures.after (ne_eqb c.in-Some.b 10 c.if-b-eq-NEWLINE.false);
      faults = c.in_ok-next.ensures.count.stays refl ∙ c.loop-i.invariant.faults;
    }

pub returns-clause-ok : goal.returns-clause-ok
returns-clause-ok g c =
    reading-long g.M.View.put_at (g.M.View.content c.args.view.now) c.args.place c.args.count c.args.ahead.now (g.S.Source.rest c.args.source.now) (g.M.View.content c.loop-i.view) c.loop-i.ahead (g.S.Source.rest c.loop-i.source) c.loop-i.i c.loop-i.invariant.reading c.loop-i-test.false
