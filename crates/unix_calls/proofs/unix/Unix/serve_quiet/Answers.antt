use Rattle.std.proofs.Common.{ℤ, Ok, subst}
use Rattle.run_definition.specs.Question.{asked}
use Rattle.unix_definition.specs.Unix.{unix}
use Rattle.unix_calls.specs.Held.{Held}
use Rattle.unix_calls.proofs.HeldForms.{with_tables_held}
use Rattle.unix_calls.specs.Serving.{parts, Serves}
use Rattle.unix_calls.specs.contracts.unix.Unix.{the_view}
use Rattle.unix_calls.proofs.CallLemmas.{signed-back}
use Rattle.unix_calls.proofs.HeldLemmas.{serves-quiet}
use Rattle.unix_calls.proofs.unix.Unix.serve_quiet.Goals as goal

pub returns : goal.returns
returns g c = record {
  served = λ input out err.
      let put_at = g.M.View.put_at in
      let old = g.M.View.content c.args.view.now in
      let q = asked c.args.call.now (g.M.View.memory old) in
      let v : Held = the_view c.self.inside in
      let w : Held = with_tables_held v c.answer.new.disk c.answer.new.opened c.answer.new.heap in
      subst (λ (x : ℤ). Serves put_at (λ s. unix s q) c.args.call.now.number q.room (parts c.args.self.now input out err) (parts w input out err) old old (Ok x)) (signed-back c.answer.result c.answer.type_inv)
      (serves-quiet put_at (λ s. unix s q) c.args.call.now.number q.room v c.args.self.now c.self.view_is input out err old c.answer.new.disk c.answer.new.opened c.answer.new.heap c.answer.result c.answer.ensures.call);
}
