use Rattle.std.proofs.Common.{◌∙◌, ap, inl, inr, refl, subst, sym}
use Rattle.std.proofs.lemmas.Result.{err_from_is_err_and}
use Rattle.elf_definition.specs.Start.{image_of}
use Rattle.translate_program.specs.Files.{allow, need}
use Rattle.command_deeds.proofs.DeedLemmas.{same_shelf}
use Rattle.command_deeds.specs.Ends.{WorksOn, ended}
use Rattle.command_deeds.specs.Runs.{plan_of}
use Rattle.command_deeds.specs.World.{seen}
use Rattle.command_translate.proofs.GoLemmas.{built_works}
use Rattle.command_translate.proofs.TranslationLemmas.{hold_accepted, spell_classes}
use Rattle.command_translate.specs.Held.{IsDueOfHeldRun}
use Rattle.command_translate.specs.Stores.{IsDueBehind}
use Rattle.command_translate.proofs.going.go_by_steps.Goals as goal

pub play_stored-requires : goal.play_stored-requires
play_stored-requires g c =
    let plan = plan_of c.args.launch.now in
    hold_accepted c.args.image plan.name c.in_ok-made.made.items c.as_slice-files.result.now c.in_ok-made.ensures.translated
    c.as_slice-files.ensures.value

pub returns-in_err-made : goal.returns-in_err-made
returns-in_err-made g c =
    let p = err_from_is_err_and c.from_residual.result c.from_residual.ensures.1 in
    let w = seen g.H.Shelf g.S.Source g.O.Sink g.E.Sink c.args.outside.now in
    record { same = (refl, refl, refl, refl); comes = rw (p.1, p.2) (inl (same_shelf w.shelf, (refl, refl, refl))) }

pub returns : goal.returns
returns g c =
    let image = c.args.image in
    let plan = plan_of c.args.launch.now in
    let unix = c.args.unix in
    let made = c.in_ok-made.made.items in
    let t = c.in_ok-made.ensures.translated in
    let classes = t.classes in
    let keep = plan.session.keep.names in
    let words = need (image_of image).mapped in
    let w = seen g.H.Shelf g.S.Source g.O.Sink g.E.Sink c.args.outside.now in
    let v = seen g.H.Shelf g.S.Source g.O.Sink g.E.Sink c.play_stored.new.outside in
    let end = ended c.play_stored.result in
    let spelled = spell_classes image plan.name made c.as_slice-files.result.now t c.as_slice-files.ensures.value in
    let files = c.as_slice-files.ensures.value in
    let bound = c.allow-bound.ensures ∙ ap (λ m. allow m plan.session.steps) c.mapped.ensures.sum in
    record {
      same = c.play_stored.ensures.same;
      comes =
          inr (built_works plan c.args.method_bytes image unix made w v end t c.in_ok-made.ensures.made
          (subst (λ b. WorksOn (λ x. IsDueBehind made (IsDueOfHeldRun b words unix keep classes x.input.told)) w v end) bound
          (subst (λ n. WorksOn (λ x. IsDueBehind made (IsDueOfHeldRun c.allow-bound.result n unix keep classes x.input.told)) w v end)
          c.need-words.ensures
          (subst (λ fs. WorksOn (λ x. IsDueBehind fs (IsDueOfHeldRun c.allow-bound.result c.need-words.result unix keep classes x.input.told)) w v end)
          files (c.play_stored.ensures.works classes spelled)))));
    }
