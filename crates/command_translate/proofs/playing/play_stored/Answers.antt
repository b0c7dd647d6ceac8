use Rattle.std.proofs.Common.{refl, subst}
use Rattle.std.proofs.lemmas.Result.{err_from_is_err_and}
use Rattle.jvm_definition.specs.Step.{loaded_program, loaded_turn}
use Rattle.class_definition.specs.Linking.{program_of}
use Rattle.command_deeds.proofs.PlayLemmas.{some_run}
use Rattle.command_deeds.specs.Ends.{WorksOn, ended}
use Rattle.command_deeds.specs.Runs.{IsDueOfHeld}
use Rattle.command_deeds.specs.World.{seen, shelf_seen, world}
use Rattle.command_translate.proofs.StoreLemmas.{no_memory_behind, works_behind, works_stopped}
use Rattle.command_translate.specs.Held.{IsDueOfHeldRun}
use Rattle.command_translate.proofs.playing.play_stored.Goals as goal

pub returns-in_err-store_files : goal.returns-in_err-store_files
returns-in_err-store_files g c =
    let p = err_from_is_err_and c.from_residual.result c.from_residual.ensures.1 in
    let words = c.args.words in
    let keep = c.args.keep.now.names in
    let stop = c.in_err-store_files.field-0.0 in
    let w = seen g.H.Shelf g.S.Source g.O.Sink g.E.Sink c.args.outside.now in
    let v = world (shelf_seen g.H.Shelf c.store_files.new.shelf) w.input w.out w.err in
    record {
      same = (refl, refl, refl, refl);
      works = λ classes spelled.
          rw (p.1, p.2) (works_stopped c.args.files.now (λ x. IsDueOfHeldRun c.args.bound words c.args.unix keep classes x.input.told) w v stop
          (some_run c.args.bound loaded_turn (loaded_program (program_of classes) words) c.args.unix keep w.input.told)
          (c.in_err-store_files.ensures.stores w.input w.out w.err));
    }

pub returns-in_err-jvm : goal.returns-in_err-jvm
returns-in_err-jvm g c =
    let p = err_from_is_err_and c.from_residual-in_err-jvm.result c.from_residual-in_err-jvm.ensures.1 in
    let words = c.args.words in
    let keep = c.args.keep.now.names in
    let w = seen g.H.Shelf g.S.Source g.O.Sink g.E.Sink c.args.outside.now in
    let v = world (shelf_seen g.H.Shelf c.store_files.new.shelf) w.input w.out w.err in
    record {
      same = (refl, refl, refl, refl);
      works = λ classes spelled.
          rw (p.1, p.2) (no_memory_behind c.args.files.now (λ x. IsDueOfHeldRun c.args.bound words c.args.unix keep classes x.input.told) w v
          (some_run c.args.bound loaded_turn (loaded_program (program_of classes) words) c.args.unix keep w.input.told)
          (c.in_ok-store_files.ensures.stores w.input w.out w.err));
    }

pub returns : goal.returns
returns g c =
    let words = c.args.words in
    let keep = c.args.keep.now.names in
    let end = ended c.play_for.result in
    let w = seen g.H.Shelf g.S.Source g.O.Sink g.E.Sink c.args.outside.now in
    let u = world (shelf_seen g.H.Shelf c.store_files.new.shelf) w.input w.out w.err in
    let v = seen g.H.Shelf g.S.Source g.O.Sink g.E.Sink c.play_for.new.outside in
    record {
      same = c.play_for.ensures.same;
      works = λ classes spelled.
          works_behind c.args.files.now (λ x. IsDueOfHeldRun c.args.bound words c.args.unix keep classes x.input.told) w u v end
          (c.in_ok-store_files.ensures.stores w.input w.out w.err)
          (subst (λ s. WorksOn (λ x. IsDueOfHeld c.args.bound loaded_turn s c.args.unix keep x.input.told) u v end)
          (c.in_ok-jvm.ensures.state classes spelled) c.play_for.ensures.works)
          (λ due h. h);
    }
