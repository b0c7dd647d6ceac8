use Rattle.run_definition.specs.Question.{asked}
use Rattle.nv_outside.specs.Seen.{output_seen}
use Rattle.unix_definition.specs.Unix.{unix}
use Rattle.unix_calls.specs.Held.{Held}
use Rattle.unix_calls.specs.Access.{write_of}
use Rattle.unix_calls.specs.Reading.{outputs}
use Rattle.unix_calls.specs.contracts.unix.Unix.{the_view}
use Rattle.unix_calls.proofs.CallLemmas.{is-write-of}
use Rattle.unix_calls.proofs.WriteGiven.{writes-by}
use Rattle.unix_calls.proofs.HeldLemmas.{write-given}
use Rattle.unix_calls.proofs.unix.Unix.serve_write.Goals as goal

pub returns : goal.returns
returns g c = record {
  served = λ input.
      let old = g.M.View.content c.args.view.now in
      let m = g.M.View.memory old in
      let call = c.args.call.now in
      let q = asked call m in
      let v : Held = the_view c.self.inside in
      let out = output_seen g.O.Sink c.args.out.now in
      let err = output_seen g.E.Sink c.args.err.now in
      let after = outputs c.write-answer.new.disk c.write-answer.new.opened (output_seen g.O.Sink c.write-answer.new.out) (output_seen g.E.Sink c.write-answer.new.err) in
      write-given g.M.View.put_at (λ s. unix s q) call.number q.room v c.args.self.now c.self.view_is input out err old after c.write-answer.result c.as_fault.result c.requires c.as_fault.ensures
      (writes-by (λ s. unix s q) (write_of m call) v.files v.opened out err after c.write-answer.result (λ s f. is-write-of m call _ c.requires) c.write-answer.ensures.served);
}
