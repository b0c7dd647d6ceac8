use Rattle.run_definition.specs.Question.{asked}
use Rattle.std.proofs.Common.{Some}
use Rattle.run_definition.specs.Question.{room_at}
use Rattle.nv_outside.specs.Seen.{input_seen}
use Rattle.unix_definition.specs.Unix.{unix}
use Rattle.unix_calls.specs.Held.{Held}
use Rattle.unix_calls.specs.Access.{read_of}
use Rattle.unix_calls.specs.Reading.{inputs}
use Rattle.unix_calls.specs.contracts.unix.Unix.{the_view}
use Rattle.unix_calls.proofs.CallLemmas.{is-read-of, room-of-4}
use Rattle.unix_calls.proofs.ReadGiven.{reads-by-room}
use Rattle.unix_calls.proofs.HeldLemmas.{read-given}
use Rattle.unix_calls.proofs.unix.Unix.serve_read.Goals as goal

pub returns : goal.returns
returns g c = record {
  served = λ out err.
      let put_at = g.M.View.put_at in
      let old = g.M.View.content c.args.view.now in
      let new = g.M.View.content c.read-answer.new.view in
      let m = g.M.View.memory old in
      let call = c.args.call.now in
      let q = asked call m in
      let v : Held = the_view c.self.inside in
      let input = input_seen g.S.Source c.args.source.now in
      let after = inputs v.most c.read-answer.new.disk c.read-answer.new.opened c.read-answer.new.ahead (g.S.Source.rest c.read-answer.new.source) in
      read-given put_at (λ s. unix s q) call.number q.room v c.args.self.now c.self.view_is input out err old new after
      (g.S.Source.faults c.read-answer.new.source) c.read-answer.result c.as_fault.result c.requires c.as_fault.ensures c.read-answer.ensures.count
      (reads-by-room put_at (λ s. unix s q) (read_of m call) q.room (room_at m (Some (call.a1, call.a2))) old new (inputs v.most v.files v.opened v.ahead input.told) after c.read-answer.result (λ s. is-read-of m call s c.requires) (room-of-4 m call c.requires) c.read-answer.ensures.served);
}
