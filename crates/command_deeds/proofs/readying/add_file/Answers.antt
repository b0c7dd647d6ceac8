use Rattle.std.proofs.Common.{[], ◌≡◌, ◌-◌, ◌^◌, ◌∷◌, ◌++◌, ◌<◌, subst}
use Rattle.unix_definition.specs.Unix.{blocks_needed}
use Rattle.unix_calls.specs.Starting.{Begins}
use Rattle.unix_calls.specs.declared.unix_error.UnixError.TheVariants.{FilesTooLarge}
use Rattle.std.proofs.lemmas.Result.{err_from_is_err_and}
use Rattle.command_deeds.specs.Ends.{end_of}
use Rattle.command_deeds.specs.World.{shelf_seen}
use Rattle.command_deeds.proofs.ReadyLemmas.{failed, file_added, file_lacks, file_refused}
use Rattle.command_deeds.proofs.readying.add_file.Goals as goal

pub returns-in_err-file : goal.returns-in_err-file
returns-in_err-file g c =
    let p = err_from_is_err_and c.from_residual.result c.from_residual.ensures.1 in
    rw (p.1, p.2) (record {
      adds = λ blocks moment found args b.
          file_lacks (shelf_seen g.H.Shelf c.args.shelf.now) (shelf_seen g.H.Shelf c.load.new.shelf) c.args.name.now c.args.word blocks found
          (end_of c.in_err-file.field-0.0) c.in_err-file.ensures.gives;
    })

pub returns : goal.returns
returns g c = record {
  adds = λ blocks moment found args b.
      file_added (shelf_seen g.H.Shelf c.args.shelf.now) (shelf_seen g.H.Shelf c.load.new.shelf) c.add_file.new.self c.args.name.now
      c.in_ok-file.file.items c.args.word blocks moment found args
      c.in_ok-file.ensures.gives
      (subst (λ n. Begins c.add_file.new.self blocks moment (found ++ (n, c.in_ok-file.file.items) ∷ []) args) c.as_bytes.ensures.value
      (subst (λ bs. Begins c.add_file.new.self blocks moment (found ++ (c.as_bytes.result.now, bs) ∷ []) args) c.as_slice.ensures.value
      (c.in_ok-add_file.ensures.added (2 ^ 32 - 1) blocks moment found args b)));
}

pub returns-in_err-add_file : goal.returns-in_err-add_file
returns-in_err-add_file g c =
    let q = err_from_is_err_and c.from_residual-in_err-add_file.result c.from_residual-in_err-add_file.ensures.1 in
    rw (q.1, q.2) (record {
      adds = λ blocks moment found args b.
          let p = c.in_err-add_file.ensures.too_large (2 ^ 32 - 1) blocks moment found args b in
          file_refused c.in_err-add_file.field-0.0 (shelf_seen g.H.Shelf c.args.shelf.now)
          (shelf_seen g.H.Shelf c.load.new.shelf) c.args.name.now c.in_ok-file.file.items c.args.word blocks found
          c.in_ok-file.ensures.gives
          (subst (λ n. failed c.in_err-add_file.field-0.0 ≡ failed (FilesTooLarge (blocks_needed (found ++ (n, c.in_ok-file.file.items) ∷ []))))
          c.as_bytes.ensures.value
          (subst (λ bs. failed c.in_err-add_file.field-0.0 ≡ failed (FilesTooLarge (blocks_needed (found ++ (c.as_bytes.result.now, bs) ∷ []))))
          c.as_slice.ensures.value p.0))
          (subst (λ n. blocks < blocks_needed (found ++ (n, c.in_ok-file.file.items) ∷ [])) c.as_bytes.ensures.value
          (subst (λ bs. blocks < blocks_needed (found ++ (c.as_bytes.result.now, bs) ∷ [])) c.as_slice.ensures.value p.1));
    })
