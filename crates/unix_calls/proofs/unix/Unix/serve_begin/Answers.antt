use Rattle.std.proofs.Common.{◌≡◌, ℤ, Ok, Some, sym, subst}
use Rattle.run_definition.specs.Question.{Room, asked, room_at}
use Rattle.unix_definition.specs.Calls.{begin}
use Rattle.unix_system.specs.Serving.{Gives}
use Rattle.unix_definition.specs.Unix.{unix}
use Rattle.unix_calls.specs.Held.{Held, system_of}
use Rattle.unix_calls.proofs.HeldForms.{with_begun_held}
use Rattle.unix_calls.specs.Serving.{parts, Serves}
use Rattle.unix_calls.specs.contracts.unix.Unix.{the_view}
use Rattle.unix_calls.proofs.CallLemmas.{is-begin, room-of-0, signed-back}
use Rattle.unix_calls.proofs.HeldLemmas.{serves-given, begin-patch}
use Rattle.unix_calls.proofs.unix.Unix.serve_begin.Goals as goal

pub returns : goal.returns
returns g c = record {
  served = λ input out err.
      let put_at = g.M.View.put_at in
      let old = g.M.View.content c.args.view.now in
      let new = g.M.View.content c.begin.new.view in
      let m = g.M.View.memory old in
      let call = c.args.call.now in
      let q = asked call m in
      let v : Held = the_view c.self.inside in
      let w : Held = with_begun_held v c.begin.new.order c.begin.new.heap in
      let size = c.room_size-size.result in
      let room : q.room ≡ room_at m (Some (call.a0, size)) = room-of-0 m call size c.requires c.room_size-size.ensures in
      subst (λ (x : ℤ). Serves put_at (λ s. unix s q) c.args.call.now.number q.room (parts c.args.self.now input out err) (parts w input out err) old new (Ok x)) (signed-back c.begin.result c.begin.type_inv)
      (serves-given put_at (λ s. unix s q) c.args.call.now.number q.room v c.args.self.now c.self.view_is input out err old new w c.begin.result (λ s. begin s call.a0 call.a1 call.a2 call.a3 q.room)
      (λ s. is-begin s q c.requires)
      (λ r before error_before. begin-patch v r before error_before call.a0 call.a1 call.a2 call.a3 q.room)
      (λ r before error_before. subst (λ (k : Room). Gives put_at old new k c.begin.result (system_of w r before error_before) (begin (system_of v r before error_before) call.a0 call.a1 call.a2 call.a3 k)) (sym room) (c.begin.ensures.call (system_of v r before error_before))));
}
