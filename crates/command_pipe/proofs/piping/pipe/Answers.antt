use Rattle.std.proofs.Common.{Ok, Err, refl, arith}
use Rattle.std.proofs.lemmas.Result.{err_from_is_err_and}
use Rattle.command_deeds.proofs.DeedLemmas.{gives_ends, gives_then}
use Rattle.command_deeds.specs.Ends.{end_of, ended}
use Rattle.command_deeds.specs.World.{seen, shelf_seen, world}
use Rattle.command_pipe.proofs.DueLemmas.{pipe-due, pipe-refused}
use Rattle.command_pipe.proofs.StageLemmas.{as-many}
use Rattle.command_pipe.specs.Pipe.{IsDueOfPipe, IsDueOfSets}
use Rattle.command_pipe.specs.Sets.{AreAccepted, sets_of}
use Rattle.command_pipe.proofs.piping.pipe.Goals as goal

pub run_stages-requires-clause-several : goal.run_stages-requires-clause-several
run_stages-requires-clause-several g c =
    let many = as-many c.args.launch.now c.args.classes.now c.in_ok-stages.stages.items c.in_ok-stages.ensures.stages in
    omega (arith, many, c.requires.stages.several)

pub run_stages-requires-clause-few : goal.run_stages-requires-clause-few
run_stages-requires-clause-few g c =
    let many = as-many c.args.launch.now c.args.classes.now c.in_ok-stages.stages.items c.in_ok-stages.ensures.stages in
    omega (arith, many, c.requires.stages.few)

pub run_stages-requires-clause-made : goal.run_stages-requires-clause-made
run_stages-requires-clause-made g c = (c.args.classes.now, c.in_ok-stages.ensures.stages)

pub returns-in_err-stages : goal.returns-in_err-stages
returns-in_err-stages g c =
    let p = err_from_is_err_and c.from_residual.result c.from_residual.ensures.1 in
    let classes = c.args.classes.now in
    let launch = c.args.launch.now in
    let w = seen g.H.Shelf g.S.Source g.O.Sink g.E.Sink c.args.outside.now in
    let v = world (shelf_seen g.H.Shelf c.load_stages.new.shelf) w.input w.out w.err in
    record {
      ends = (
        (refl, refl, refl, refl),
        rw (p.1, p.2) (gives_ends (IsDueOfPipe classes launch) (λ files answer. AreAccepted w.shelf.told classes (Err answer)) w v
            (end_of c.in_err-stages.field-0.0) c.in_err-stages.ensures.gives (refl, refl, refl)
            (λ files answer agree h. pipe-refused classes launch w answer h)),
      );
    }

pub returns : goal.returns
returns g c =
    let classes = c.args.classes.now in
    let launch = c.args.launch.now in
    let sets = sets_of c.in_ok-stages.stages.items in
    let w = seen g.H.Shelf g.S.Source g.O.Sink g.E.Sink c.args.outside.now in
    let u = world (shelf_seen g.H.Shelf c.load_stages.new.shelf) w.input w.out w.err in
    let v = seen g.H.Shelf g.S.Source g.O.Sink g.E.Sink c.run_stages.new.outside in
    record {
      ends = (
        c.run_stages.ensures.same,
        gives_then (IsDueOfPipe classes launch) (IsDueOfSets classes launch sets) (λ files. AreAccepted w.shelf.told classes (Ok sets)) w u v
            (ended c.run_stages.result) c.in_ok-stages.ensures.gives (refl, refl, refl)
            (λ files due agree h later. pipe-due classes launch w u sets due refl h later)
            (c.run_stages.ensures.comes classes c.in_ok-stages.ensures.stages),
      );
    }
