use Rattle.std.proofs.Common.{◌≡◌, ℤ, Ok, Some, refl, sym, subst, to_z, of_z, w32}
use Rattle.run_definition.specs.Question.{Room, asked, room_at}
use Rattle.unix_definition.specs.Calls.{fstat}
use Rattle.unix_system.specs.Serving.{Gives}
use Rattle.unix_definition.specs.Unix.{unix}
use Rattle.unix_calls.specs.Held.{Held, system_of}
use Rattle.unix_calls.specs.Serving.{parts, Serves}
use Rattle.unix_calls.specs.contracts.unix.Unix.{the_view}
use Rattle.unix_calls.proofs.CallLemmas.{is-fstat, room-of-8, signed-back}
use Rattle.unix_calls.proofs.HeldLemmas.{serves-given, fstat-patch}
use Rattle.unix_calls.proofs.unix.Unix.serve_status.Goals as goal

pub returns : goal.returns
returns g c = record {
  served = λ input out err.
      let put_at = g.M.View.put_at in
      let old = g.M.View.content c.args.view.now in
      let new = g.M.View.content c.fstat.new.view in
      let m = g.M.View.memory old in
      let call = c.args.call.now in
      let q = asked call m in
      let v : Held = the_view c.self.inside in
      let room : q.room ≡ room_at m (Some (call.a1, 16)) = room-of-8 m call c.requires in
      let value = c.fstat.result in
      subst (λ (w : Held). Serves put_at (λ s. unix s q) c.args.call.now.number q.room (parts w input out err) (parts w input out err) old new (Ok (to_z w32 (of_z w32 value)))) c.self.view_is
      (subst (λ (x : ℤ). Serves put_at (λ s. unix s q) c.args.call.now.number q.room (parts v input out err) (parts v input out err) old new (Ok x)) (signed-back value c.fstat.type_inv)
      (serves-given put_at (λ s. unix s q) c.args.call.now.number q.room v v refl input out err old new v value (λ s. fstat s call.a0 q.room)
      (λ s. is-fstat s q c.requires)
      (λ r before error_before. fstat-patch v r before error_before call.a0 q.room)
      (λ r before error_before. subst (λ (k : Room). Gives put_at old new k value (system_of v r before error_before) (fstat (system_of v r before error_before) call.a0 k)) (sym room) (c.fstat.ensures (system_of v r before error_before)))));
}
