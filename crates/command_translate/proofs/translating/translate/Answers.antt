use Rattle.std.proofs.Common.{[], ◌≡◌, ◌∷◌, Some, Ok, Err, inl, inr, refl, subst, sym}
use Rattle.std.proofs.lemmas.Result.{err_from_is_err_and}
use Rattle.nv_translate.specs.Made.{AreMade}
use Rattle.command_deeds.proofs.DeedLemmas.{all_then_stops, all_then_works, gives_ends, gives_then, same_shelf, stops_before, written}
use Rattle.command_deeds.specs.Deeds.{prints}
use Rattle.command_deeds.specs.Ends.{end_of, says}
use Rattle.command_deeds.specs.World.{output_seen, seen, shelf_seen, world}
use Rattle.command_deeds.specs.declared.done.Done.TheVariants.{Good}
use Rattle.command_deeds.specs.declared.stop.Stop.TheVariants.{WriteFault}
use Rattle.command_guest.specs.Imaging.{IsImagedFrom}
use Rattle.command_translate.proofs.TranslationLemmas.{translate_due, translate_refused}
use Rattle.command_translate.specs.Held.{AreTranslatedBy}
use Rattle.command_translate.specs.Stores.{translation_line, files_counted, files_stored}
use Rattle.command_translate.specs.Translate.{IsDueOfTranslate}
use Rattle.command_translate.proofs.translating.translate.Goals as goal

pub returns-in_err-image : goal.returns-in_err-image
returns-in_err-image g c =
    let p = err_from_is_err_and c.from_residual.result c.from_residual.ensures.1 in
    let input = c.args.input.now in
    let name = c.args.name.now in
    let w = seen g.H.Shelf g.S.Source g.O.Sink g.E.Sink c.args.outside.now in
    let v = world (shelf_seen g.H.Shelf c.load_image.new.shelf) w.input w.out w.err in
    record {
      ends = (
        (refl, refl, refl, refl),
        rw (p.1, p.2) (gives_ends (IsDueOfTranslate AreMade input name c.args.pages c.args.method_bytes c.args.meter)
            (λ files answer. IsImagedFrom input c.args.pages files (Err answer)) w v (end_of c.in_err-image.field-0.0) c.in_err-image.ensures.gives
            (refl, refl, refl)
            (λ files answer agree h. translate_refused input name c.args.pages c.args.method_bytes c.args.meter w files answer agree h)),
      );
    }

pub returns-in_err-made : goal.returns-in_err-made
returns-in_err-made g c =
    let p = err_from_is_err_and c.from_residual-in_err-made.result c.from_residual-in_err-made.ensures.1 in
    record { ends = ((refl, refl, refl, refl), rw (p.1, p.2) (inl (c.in_ok-image.ensures.gives.same, (refl, refl, refl)))) }

pub returns-in_err-store_files : goal.returns-in_err-store_files
returns-in_err-store_files g c =
    let p = err_from_is_err_and c.from_residual-in_err-store_files.result c.from_residual-in_err-store_files.ensures.1 in
    let stop = c.in_err-store_files.field-0.0 in
    let input = c.args.input.now in
    let name = c.args.name.now in
    let image = c.in_ok-image.image in
    let made = c.as_slice-files.result.now in
    let words = c.need-words.result in
    let t = subst (AreTranslatedBy c.args.meter image name) (sym c.as_slice-files.ensures.value) c.in_ok-made.ensures.translated in
    let how = subst (AreMade c.args.meter image name c.args.method_bytes) (sym c.as_slice-files.ensures.value) c.in_ok-made.ensures.made in
    let w = seen g.H.Shelf g.S.Source g.O.Sink g.E.Sink c.args.outside.now in
    let u = world (shelf_seen g.H.Shelf c.load_image.new.shelf) w.input w.out w.err in
    let v = world (shelf_seen g.H.Shelf c.store_files.new.shelf) w.input w.out w.err in
    record {
      ends = (
        (refl, refl, refl, refl),
        rw (p.1, p.2) (gives_then (IsDueOfTranslate AreMade input name c.args.pages c.args.method_bytes c.args.meter) (λ x d. d ≡ files_counted made words)
            (λ files. IsImagedFrom input c.args.pages files (Ok image)) w u v (Err stop) c.in_ok-image.ensures.gives (refl, refl, refl)
            (λ files d agree h later. translate_due input name c.args.pages c.args.method_bytes c.args.meter w files image made words d agree h t how
            c.need-words.ensures later)
            (inr (
              files_counted made words,
              refl,
              stops_before (files_stored made) (prints (translation_line made words) ∷ []) u v stop
                  (c.in_err-store_files.ensures.stores w.input w.out w.err),
            ))),
      );
    }

pub returns-in_err-write_counts : goal.returns-in_err-write_counts
returns-in_err-write_counts g c =
    let p = err_from_is_err_and c.from_residual-in_err-write_counts.result c.from_residual-in_err-write_counts.ensures.1 in
    let input = c.args.input.now in
    let name = c.args.name.now in
    let image = c.in_ok-image.image in
    let made = c.as_slice-files.result.now in
    let words = c.need-words.result in
    let t = subst (AreTranslatedBy c.args.meter image name) (sym c.as_slice-files.ensures.value) c.in_ok-made.ensures.translated in
    let how = subst (AreMade c.args.meter image name c.args.method_bytes) (sym c.as_slice-files.ensures.value) c.in_ok-made.ensures.made in
    let w = seen g.H.Shelf g.S.Source g.O.Sink g.E.Sink c.args.outside.now in
    let u = world (shelf_seen g.H.Shelf c.load_image.new.shelf) w.input w.out w.err in
    let x = world (shelf_seen g.H.Shelf c.store_files.new.shelf) w.input w.out w.err in
    let v = world x.shelf w.input (output_seen g.O.Sink c.write_counts.new.out) w.err in
    record {
      ends = (
        (refl, refl, refl, refl),
        rw (p.1, p.2) (gives_then (IsDueOfTranslate AreMade input name c.args.pages c.args.method_bytes c.args.meter) (λ x d. d ≡ files_counted made words)
            (λ files. IsImagedFrom input c.args.pages files (Ok image)) w u v (Err WriteFault) c.in_ok-image.ensures.gives (refl, refl, refl)
            (λ files d agree h later. translate_due input name c.args.pages c.args.method_bytes c.args.meter w files image made words d agree h t how
            c.need-words.ensures later)
            (inr (
              files_counted made words,
              refl,
              all_then_stops (files_stored made) (prints (translation_line made words) ∷ []) u x v WriteFault
                  (c.in_ok-store_files.ensures.stores w.input w.out w.err)
                  (inl (c.in_err-write_counts.ensures.writes, (same_shelf x.shelf, refl, refl))),
            ))),
      );
    }

pub returns : goal.returns
returns g c =
    let input = c.args.input.now in
    let name = c.args.name.now in
    let image = c.in_ok-image.image in
    let made = c.as_slice-files.result.now in
    let words = c.need-words.result in
    let t = subst (AreTranslatedBy c.args.meter image name) (sym c.as_slice-files.ensures.value) c.in_ok-made.ensures.translated in
    let how = subst (AreMade c.args.meter image name c.args.method_bytes) (sym c.as_slice-files.ensures.value) c.in_ok-made.ensures.made in
    let w = seen g.H.Shelf g.S.Source g.O.Sink g.E.Sink c.args.outside.now in
    let u = world (shelf_seen g.H.Shelf c.load_image.new.shelf) w.input w.out w.err in
    let x = world (shelf_seen g.H.Shelf c.store_files.new.shelf) w.input w.out w.err in
    let v = world x.shelf w.input (output_seen g.O.Sink c.write_counts.new.out) w.err in
    record {
      ends = (
        (refl, refl, refl, refl),
        gives_then (IsDueOfTranslate AreMade input name c.args.pages c.args.method_bytes c.args.meter) (λ x d. d ≡ files_counted made words)
            (λ files. IsImagedFrom input c.args.pages files (Ok image)) w u v (Ok (says Good)) c.in_ok-image.ensures.gives (refl, refl, refl)
            (λ files d agree h later. translate_due input name c.args.pages c.args.method_bytes c.args.meter w files image made words d agree h t how
            c.need-words.ensures later)
            (inr (
              files_counted made words,
              refl,
              all_then_works (files_stored made) (prints (translation_line made words) ∷ []) (Some (says Good)) u x v (Ok (says Good))
                  (c.in_ok-store_files.ensures.stores w.input w.out w.err)
                  (written (translation_line made words) x v (says Good) refl c.in_ok-write_counts.ensures.writes (same_shelf x.shelf, refl, refl)),
            )),
      );
    }
