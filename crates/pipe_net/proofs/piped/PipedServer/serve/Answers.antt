use Rattle.std.proofs.Common.{Some, Err, rules, refl, sym, ◌∙◌}
use Rattle.std.specs.Prelude.{FitsSigned}
use Rattle.std.specs.Int.{w32}
use Rattle.std.proofs.lemmas.Int.{to_z-of_z}
use Rattle.run_definition.specs.Question.{asked}
use Rattle.unix_calls.proofs.JoinedLemmas.{joined-causes, joined-none_falls}
use Rattle.pipe_net.specs.Views.{ports}
use Rattle.pipe_net.proofs.ServedLemmas.{piped-falls, piped-goes, piped-waits}
use Rattle.pipe_net.proofs.piped.PipedServer.serve.Goals as goal

pub returns-then-not-is_ready-clause-served : goal.returns-then-not-is_ready-clause-served
returns-then-not-is_ready-clause-served g c =
    let m = g.M.View.memory (g.M.View.content c.args.view.now) in
    piped-waits (λ j. ports g.S.Source g.O.Sink j) (λ j. j.failed) g.M.View.put_at c.args.self.now (asked c.args.call.now m) (g.M.View.content c.args.view.now) (sym (c.is_ready.ensures m) ∙ c.if-not-is_ready.true)

pub returns-in-Ok-clause-served : goal.returns-in-Ok-clause-served
returns-in-Ok-clause-served g c =
    let fits : FitsSigned w32 c.in-Ok.value = search rules in
    let m = g.M.View.memory (g.M.View.content c.args.view.now) in
    rw (to_z-of_z w32 c.in-Ok.value fits)
    (piped-goes (λ j. ports g.S.Source g.O.Sink j) (λ j. j.failed) g.M.View.put_at c.args.self.now c.serve_ready.new.self (asked c.args.call.now m) (g.M.View.content c.args.view.now) (g.M.View.content c.serve_ready.new.view) c.in-Ok.value
    (sym (c.is_ready.ensures m) ∙ c.if-not-is_ready.false) c.in-Ok.ensures.others c.in-Ok.ensures.served)

pub returns-in-Err-clause-served : goal.returns-in-Err-clause-served
returns-in-Err-clause-served g c =
    let m = g.M.View.memory (g.M.View.content c.args.view.now) in
    piped-falls (λ j. ports g.S.Source g.O.Sink j) (λ j. j.failed) g.M.View.put_at c.args.self.now (record c.serve_ready.new.self { failed = Some c.in-Err.fault }) (asked c.args.call.now m) (g.M.View.content c.args.view.now) (g.M.View.content c.serve_ready.new.view) c.in-Err.fault
    (sym (c.is_ready.ensures m) ∙ c.if-not-is_ready.false) c.in-Err.ensures.others refl c.in-Err.ensures.served

pub returns-in-Err-clause-causes : goal.returns-in-Err-clause-causes
returns-in-Err-clause-causes g c = joined-causes c.args.self.now.failed (Err c.in-Err.fault) (Err c.in-Err.fault) c.requires.usable refl

pub returns-in-Err-clause-none_falls : goal.returns-in-Err-clause-none_falls
returns-in-Err-clause-none_falls g c = joined-none_falls c.args.self.now.failed (Some c.in-Err.fault) c.requires.usable

pub returns-then-not-is_ready-clause-keeps : goal.returns-then-not-is_ready-clause-keeps
returns-then-not-is_ready-clause-keeps g c = (refl, refl, refl, refl, refl, refl, λ h. h, refl, refl, refl)

pub returns-in-Ok-clause-keeps : goal.returns-in-Ok-clause-keeps
returns-in-Ok-clause-keeps g c =
    let e = c.in-Ok.ensures in
    (e.same_unix, e.same_source, e.same_before, e.same_sink, e.same_behind, e.same_errors, λ h. e.short, e.same_inlet, e.same_outlet, e.same_c)

pub returns-in-Err-clause-keeps : goal.returns-in-Err-clause-keeps
returns-in-Err-clause-keeps g c =
    let e = c.in-Err.ensures in
    (e.same_unix, e.same_source, e.same_before, e.same_sink, e.same_behind, e.same_errors, λ h. e.short, e.same_inlet, e.same_outlet, e.same_c)

pub returns-then-not-is_ready-clause-none_falls : goal.returns-then-not-is_ready-clause-none_falls
returns-then-not-is_ready-clause-none_falls g c = joined-none_falls c.args.self.now.failed c.args.self.now.failed c.requires.usable

pub returns-in-Ok-clause-none_falls : goal.returns-in-Ok-clause-none_falls
returns-in-Ok-clause-none_falls g c = joined-none_falls c.args.self.now.failed c.serve_ready.new.self.failed c.requires.usable
