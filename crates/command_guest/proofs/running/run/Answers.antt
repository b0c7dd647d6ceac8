use Rattle.std.proofs.Common.{true, Ok, Err, refl, subst}
use Rattle.std.proofs.lemmas.Result.{err_from_is_err_and}
use Rattle.jvm_definition.specs.Step.{loaded_program, loaded_turn}
use Rattle.class_definition.specs.Linking.{program_of}
use Rattle.command_deeds.proofs.DeedLemmas.{gives_ends, gives_then}
use Rattle.command_deeds.specs.Ends.{Comes, end_of, ended}
use Rattle.command_deeds.specs.World.{seen, shelf_seen, world}
use Rattle.command_deeds.specs.Runs.{IsDueOfPlay, plan_of}
use Rattle.command_guest.proofs.DueLemmas.{run_due, run_refused}
use Rattle.command_guest.specs.Classes.{IsAcceptedSet, IsDueOfRun}
use Rattle.command_guest.proofs.running.run.Goals as goal

pub returns-in_err-verified : goal.returns-in_err-verified
returns-in_err-verified g c =
    let p = err_from_is_err_and c.from_residual.result c.from_residual.ensures.1 in
    let class = c.args.class.now in
    let words = c.args.words in
    let plan = plan_of c.args.launch.now in
    let w = seen g.H.Shelf g.S.Source g.O.Sink g.E.Sink c.args.outside.now in
    let v = world (shelf_seen g.H.Shelf c.accept.new.shelf) w.input w.out w.err in
    record {
      ends = (
        (refl, refl, refl, refl),
        rw (p.1, p.2) (gives_ends (IsDueOfRun class words plan) (λ files answer. IsAcceptedSet class files (Err answer)) w v
            (end_of c.in_err-verified.field-0.0) c.in_err-verified.ensures.gives (refl, refl, refl)
            (λ files answer agree h. run_refused class words plan w files answer agree h)),
      );
    }

pub returns : goal.returns
returns g c =
    let class = c.args.class.now in
    let words = c.args.words in
    let plan = plan_of c.args.launch.now in
    let classes = c.in_ok-verified.verified.linked.classes in
    let w = seen g.H.Shelf g.S.Source g.O.Sink g.E.Sink c.args.outside.now in
    let now = shelf_seen g.H.Shelf c.accept.new.shelf in
    let u = world now w.input w.out w.err in
    let v = seen g.H.Shelf g.S.Source g.O.Sink g.E.Sink c.play_session.new.outside in
    let over = c.in_ok-verified.ensures.gives in
    record {
      ends = (
        c.play_session.ensures.ends.0,
        gives_then (IsDueOfRun class words plan) (IsDueOfPlay loaded_turn (loaded_program (program_of classes) words) plan)
            (λ files. IsAcceptedSet class files (Ok classes)) w u v (ended c.play_session.result) over (refl, refl, refl)
            (λ files due agree h later. run_due class words plan w now files classes due over.same.0 agree h later)
            (subst (λ s. Comes true (IsDueOfPlay loaded_turn s plan) u v (ended c.play_session.result))
            c.in_ok-jvm.ensures.state c.play_session.ensures.ends.1),
      );
    }
