use Rattle.std.proofs.Common.{ℤ, subst}
use Rattle.run_definition.specs.Question.{asked_text_at}
use Rattle.run_definition.specs.declared.text_place.TextPlace.TheVariants.{Counted}
use Rattle.nv_outside.specs.Seen.{output_seen}
use Rattle.unix_definition.specs.Asked.{bytes_of_text}
use Rattle.unix_definition.specs.Calls.{write_target}
use Rattle.unix_calls.specs.Access.{write_of}
use Rattle.unix_calls.specs.Reading.{outputs, Writes}
use Rattle.unix_calls.proofs.CallLemmas.{signed-back}
use Rattle.unix_calls.proofs.WriteGiven.{writes-quiet, writes-by}
use Rattle.unix_calls.proofs.console.write.Goals as goal

pub returns-in-Answered : goal.returns-in-Answered
returns-in-Answered g c =
    let m = g.M.View.memory (g.M.View.content c.args.view.now) in
    let out = output_seen g.O.Sink c.args.out.now in
    let err = output_seen g.E.Sink c.args.err.now in
    let o = outputs c.args.disk.now c.args.opened.now out err in
    record {
      served = subst (λ (v : ℤ). Writes (write_of m c.args.call.now) o o v) (signed-back c.in-Answered.value c.in-Answered.ensures.small)
          (writes-quiet (write_of m c.args.call.now) c.args.disk.now c.args.opened.now out err c.args.disk.now c.args.opened.now c.in-Answered.value (λ s. c.in-Answered.ensures.is s c.args.disk.now));
    }

pub returns-in-Granted : goal.returns-in-Granted
returns-in-Granted g c =
    let m = g.M.View.memory (g.M.View.content c.args.view.now) in
    let call = c.args.call.now in
    let text = bytes_of_text (asked_text_at m (Counted call.a1 call.a2)) in
    let description = c.in-Granted.description in
    record {
      served = writes-by (write_of m call) (λ s. write_target s c.in-Granted.d description text description.target) c.args.disk.now c.args.opened.now (output_seen g.O.Sink c.args.out.now) (output_seen g.E.Sink c.args.err.now)
          (outputs c.write_to.new.disk c.write_to.new.opened (output_seen g.O.Sink c.write_to.new.out) (output_seen g.E.Sink c.write_to.new.err)) c.write_to.result c.in-Granted.ensures.is c.write_to.ensures.served;
    }
