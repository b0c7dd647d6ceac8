-- What is due of `go`, by what its stages came to.
use Rattle.std.proofs.Common.{◌≡◌, ◌∙◌, ℕ, true, List, Option, Some, None, Result, Ok, Err, refl, sym, subst}
use Rattle.nv_outside.specs.Files.{AgreeWith, Files}
use Rattle.nv_outside.proofs.FilesLemmas.{agree_before}
use Rattle.nv_translate.specs.Made.{AreMade}
use Rattle.command_words.specs.declared.named.Named.{Named}
use Rattle.command_words.specs.declared.pages.Pages.{Pages}
use Rattle.elf_definition.specs.Start.{Source, image_of}
use Rattle.unix_calls.specs.Held.{Held}
use Rattle.unix_calls.specs.Starting.{Begins}
use Rattle.jvm_definition.specs.Step.{loaded_program, loaded_turn}
use Rattle.class_definition.specs.Linking.{program_of}
use Rattle.translate_program.specs.Files.{need}
use Rattle.translate_program.specs.declared.named_file.NamedFile.{NamedFile}
use Rattle.nv_translate.specs.Translated.{Translated}
use Rattle.command_deeds.proofs.DeedLemmas.{gives_ends, gives_then, stays_then, stays_then_comes}
use Rattle.command_deeds.proofs.PlayLemmas.{StartsAs, held_due}
use Rattle.command_deeds.specs.Checks.{file_that_is_named}
use Rattle.command_deeds.specs.Ends.{CommandAnswer, Comes, Due, GivesEnd, Over, WorksOn, answers}
use Rattle.command_deeds.specs.Readying.{IsReady}
use Rattle.command_deeds.specs.Runs.{GivenFile, Plan, arguments_of, found_for}
use Rattle.command_deeds.specs.World.{OnlyShelf, World}
use Rattle.command_deeds.specs.declared.stop.Stop.{Stop}
use Rattle.command_guest.specs.Imaging.{IsImagedFrom}
use Rattle.command_translate.proofs.MeteredRuns.{metered_due}
use Rattle.command_translate.proofs.RunLemmas.{run_due}
use Rattle.command_translate.specs.Go.{IsDueOfGo, IsDueOfTranslated, IsDueOfTranslatedBy, allowed}
use Rattle.command_translate.specs.Held.{IsDueOfHeldGo, IsDueOfHeldMetered, IsDueOfHeldRun}
use Rattle.command_translate.specs.Metered.{IsDueOfMetered, allowed_by_meter}
use Rattle.command_translate.specs.Stores.{IsDueBehind}

-- the image was refused
pub go_refused : (input : Named) (pages : Pages) (method_bytes : ℕ) (meter : Option ℕ) (plan : Plan) (w : World) (files : Files) (answer : CommandAnswer)
    → AgreeWith w.shelf.told files → IsImagedFrom input pages files (Err answer) → IsDueOfGo AreMade input pages method_bytes meter plan w (answers answer)
go_refused input pages method_bytes meter plan w files answer agree h = record {
  files = files;
  agree = agree;
  with_files = files;
  with_agree = agree;
  file = file_that_is_named files input;
  file_is = refl;
  source = Err answer;
  source_is = h;
  found = Err answer;
  found_is = refl;
  refused = refl;
  done = tt;
}

-- arguments or files are refused with this answer
abbrev IsUnready : Plan → World → Due → Type 0
IsUnready plan w due = (files : Files) × (answer : CommandAnswer) × AgreeWith w.shelf.told files × (found_for plan files ≡ Err answer)
    × (due ≡ answers answer)

-- the image was made, and arguments or files were refused
pub go_unready : (plan : Plan) (input : Named) (pages : Pages) (method_bytes : ℕ) (meter : Option ℕ) (image : Source) (w u v : World) (end : Result CommandAnswer Stop)
    → Over (λ files. IsImagedFrom input pages files (Ok image)) w.shelf u.shelf → OnlyShelf w u
    → GivesEnd (λ files answer. found_for plan files ≡ Err answer) u.shelf v.shelf end → OnlyShelf u v
    → Comes true (IsDueOfGo AreMade input pages method_bytes meter plan) w v end
go_unready plan input pages method_bytes meter image w u v end imaged only ends only' =
    gives_then (IsDueOfGo AreMade input pages method_bytes meter plan) (IsUnready plan) (λ files. IsImagedFrom input pages files (Ok image)) w u v end imaged only
    (λ files due agree h later. record {
      files = files;
      agree = agree;
      with_files = later.0;
      with_agree = agree_before w.shelf.told u.shelf.told later.0 imaged.same.0 later.2;
      file = file_that_is_named files input;
      file_is = refl;
      source = Ok image;
      source_is = h;
      found = Err later.1;
      found_is = sym later.3;
      refused = later.4;
      done = tt;
    })
    (gives_ends (IsUnready plan) (λ files answer. found_for plan files ≡ Err answer) u v end ends only'
    (λ files answer agree h. (files, answer, agree, h, refl)))

module _ (plan : Plan) (starts : (held : Held) → StartsAs plan held) where
  translated_due : (method_bytes : ℕ) (image : Source) (unix : Held) (given : List GivenFile) (rest : Option (List ℕ)) (due : Due)
      → Begins unix plan.session.disk plan.moment given (arguments_of plan) → IsDueOfHeldGo plan method_bytes image unix rest due
      → IsDueOfTranslated AreMade plan method_bytes image given rest due
  translated_due method_bytes image unix given rest due begins h =
      run_due plan method_bytes image h.0 h.1 h.2 given rest h.3.0 due
      (held_due (allowed plan image) loaded_turn (loaded_program (program_of h.1.classes) (need (image_of image).mapped))
      plan unix given rest h.3.0 (starts unix) begins h.3.1) h.3.2

  by_meter_due : (method_bytes turns : ℕ) (image : Source) (unix : Held) (given : List GivenFile) (rest : Option (List ℕ)) (due : Due)
      → Begins unix plan.session.disk plan.moment given (arguments_of plan) → IsDueOfHeldMetered plan method_bytes turns image unix rest due
      → IsDueOfMetered AreMade plan method_bytes turns image given rest due
  by_meter_due method_bytes turns image unix given rest due begins h =
      metered_due plan method_bytes turns image h.0 h.1 h.2 given rest h.4.0 h.3 due
      (held_due (allowed_by_meter turns image) loaded_turn (loaded_program (program_of h.1.runs.classes) (need (image_of image).mapped))
      plan unix given rest h.4.0 (starts unix) begins h.4.1) h.4.2 h.5

  -- the image was made and the system is ready, and the rest came to what is due of it
  came : (meter : Option ℕ) (IsHeldDue : Option (List ℕ) → Due → Type 0) (method_bytes : ℕ) (input : Named) (pages : Pages) (image : Source) (unix : Held)
      (w u x v : World) (end : Result CommandAnswer Stop)
      → ((given : List GivenFile) (rest : Option (List ℕ)) (due : Due) → Begins unix plan.session.disk plan.moment given (arguments_of plan)
      → IsHeldDue rest due → IsDueOfTranslatedBy AreMade meter plan method_bytes image given rest due)
      → Over (λ files. IsImagedFrom input pages files (Ok image)) w.shelf u.shelf → OnlyShelf w u → Over (λ files. IsReady plan files unix) u.shelf x.shelf
      → OnlyShelf u x → Comes true (λ y. IsHeldDue y.input.told) x v end
      → Comes true (IsDueOfGo AreMade input pages method_bytes meter plan) w v end
  came meter IsHeldDue method_bytes input pages image unix w u x v end is imaged only ready only' comes =
      stays_then_comes true (λ y. IsHeldDue y.input.told) (IsDueOfGo AreMade input pages method_bytes meter plan) w x v end
      (stays_then w u x (imaged.same, only) (ready.same, only'))
      (λ due later. record {
        files = imaged.files;
        agree = imaged.agree;
        with_files = ready.files;
        with_agree = agree_before w.shelf.told u.shelf.told ready.files imaged.same.0 ready.agree;
        file = file_that_is_named imaged.files input;
        file_is = refl;
        source = Ok image;
        source_is = imaged.is;
        found = Ok ready.is.given;
        found_is = sym ready.is.finds;
        refused = tt;
        done = is ready.is.given w.input.told due ready.is.begins (subst (λ i. IsHeldDue i.told due) (only'.0 ∙ only.0) later);
      }) comes

  pub go_comes : (method_bytes : ℕ) (input : Named) (pages : Pages) (image : Source) (unix : Held) (w u x v : World) (end : Result CommandAnswer Stop)
      → Over (λ files. IsImagedFrom input pages files (Ok image)) w.shelf u.shelf → OnlyShelf w u → Over (λ files. IsReady plan files unix) u.shelf x.shelf
      → OnlyShelf u x → Comes true (λ y. IsDueOfHeldGo plan method_bytes image unix y.input.told) x v end
      → Comes true (IsDueOfGo AreMade input pages method_bytes None plan) w v end
  go_comes method_bytes input pages image unix w u x v end =
      came None (IsDueOfHeldGo plan method_bytes image unix) method_bytes input pages image unix w u x v end
      (λ given rest due begins h. translated_due method_bytes image unix given rest due begins h)

  pub go_comes_by_meter : (method_bytes turns : ℕ) (input : Named) (pages : Pages) (image : Source) (unix : Held) (w u x v : World)
      (end : Result CommandAnswer Stop)
      → Over (λ files. IsImagedFrom input pages files (Ok image)) w.shelf u.shelf → OnlyShelf w u → Over (λ files. IsReady plan files unix) u.shelf x.shelf
      → OnlyShelf u x → Comes true (λ y. IsDueOfHeldMetered plan method_bytes turns image unix y.input.told) x v end
      → Comes true (IsDueOfGo AreMade input pages method_bytes (Some turns) plan) w v end
  go_comes_by_meter method_bytes turns input pages image unix w u x v end =
      came (Some turns) (IsDueOfHeldMetered plan method_bytes turns image unix) method_bytes input pages image unix w u x v end
      (λ given rest due begins h. by_meter_due method_bytes turns image unix given rest due begins h)

-- a translation was made, and its files and classes worked on
pub built_works : (plan : Plan) (method_bytes : ℕ) (image : Source) (unix : Held) (files : List NamedFile) (w v : World) (end : Result CommandAnswer Stop)
    → (t : Translated image plan.name files) → AreMade None image plan.name method_bytes files
    → WorksOn (λ x. IsDueBehind files (IsDueOfHeldRun (allowed plan image) (need (image_of image).mapped) unix plan.session.keep.names t.classes
    x.input.told)) w v end
    → WorksOn (λ x. IsDueOfHeldGo plan method_bytes image unix x.input.told) w v end
built_works plan method_bytes image unix files w v end t made q = (q.0, (files, t, made, q.1), q.2)
