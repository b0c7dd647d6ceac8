use Rattle.std.proofs.Common.{◌∙◌, true, ap, inl, inr, refl, subst, sym}
use Rattle.std.proofs.lemmas.Result.{err_from_is_err_and}
use Rattle.elf_definition.specs.Start.{image_of}
use Rattle.translate_program.specs.Files.{meter_allow, need}
use Rattle.command_deeds.proofs.DeedLemmas.{same_shelf}
use Rattle.command_deeds.specs.Ends.{Comes, WorksOn, ended}
use Rattle.command_deeds.specs.Runs.{plan_of}
use Rattle.command_deeds.specs.World.{seen}
use Rattle.command_translate.proofs.MeteredRuns.{metered_works}
use Rattle.command_translate.proofs.TranslationLemmas.{hold_metered, spell_metered}
use Rattle.command_translate.specs.Held.{IsDueOfHeldMetered, IsDueOfHeldRun}
use Rattle.command_translate.specs.Stores.{IsDueBehind}
use Rattle.command_translate.proofs.going.go_by_meter.Goals as goal

pub play_stored-end-requires : goal.play_stored-end-requires
play_stored-end-requires g c =
    let plan = plan_of c.args.launch.now in
    hold_metered c.args.image plan.name c.args.turns c.in_ok-made.made.items c.as_slice-files.result.now c.in_ok-made.ensures.translated
    c.as_slice-files.ensures.value

pub returns-in_err-made : goal.returns-in_err-made
returns-in_err-made g c =
    let p = err_from_is_err_and c.from_residual.result c.from_residual.ensures.1 in
    let w = seen g.H.Shelf g.S.Source g.O.Sink g.E.Sink c.args.outside.now in
    record { same = (refl, refl, refl, refl); comes = rw (p.1, p.2) (inl (same_shelf w.shelf, (refl, refl, refl))) }

pub returns : goal.returns
returns g c =
    let image = c.args.image in
    let plan = plan_of c.args.launch.now in
    let unix = c.args.unix in
    let turns = c.args.turns in
    let made = c.in_ok-made.made.items in
    let t = c.in_ok-made.ensures.translated in
    let classes = t.runs.classes in
    let keep = plan.session.keep.names in
    let words = need (image_of image).mapped in
    let w = seen g.H.Shelf g.S.Source g.O.Sink g.E.Sink c.args.outside.now in
    let v = seen g.H.Shelf g.S.Source g.O.Sink g.E.Sink c.play_stored-end.new.outside in
    let end = ended c.play_stored-end.result in
    let spelled = spell_metered image plan.name turns made c.as_slice-files.result.now t c.as_slice-files.ensures.value in
    let files = c.as_slice-files.ensures.value in
    let bound = c.meter_allow-bound.ensures ∙ ap (λ m. meter_allow m turns) c.mapped.ensures.sum in
    record {
      same = c.play_stored-end.ensures.same;
      comes =
          subst (λ e. Comes true (λ x. IsDueOfHeldMetered plan c.args.method_bytes turns image unix x.input.told) w v e) (sym c.end_by_meter.ensures)
          (inr (metered_works plan c.args.method_bytes turns image unix made w v end t c.in_ok-made.ensures.made
          (subst (λ b. WorksOn (λ x. IsDueBehind made (IsDueOfHeldRun b words unix keep classes x.input.told)) w v end) bound
          (subst (λ n. WorksOn (λ x. IsDueBehind made (IsDueOfHeldRun c.meter_allow-bound.result n unix keep classes x.input.told)) w v end)
          c.need-words.ensures
          (subst (λ fs. WorksOn (λ x. IsDueBehind fs (IsDueOfHeldRun c.meter_allow-bound.result c.need-words.result unix keep classes x.input.told)) w v end)
          files (c.play_stored-end.ensures.works classes spelled))))));
    }
