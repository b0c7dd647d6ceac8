-- What is due of a translation.
use Rattle.std.proofs.Common.{◌≡◌, ℕ, List, Option, Some, None, Ok, Err, refl, ap, ◌∙◌, subst, sym}
use Rattle.nv_outside.specs.Files.{AgreeWith, Files}
use Rattle.nv_values.specs.Names.{Text}
use Rattle.nv_translate.specs.Made.{AreMade}
use Rattle.command_words.specs.declared.named.Named.{Named}
use Rattle.command_words.specs.declared.pages.Pages.{Pages}
use Rattle.elf_definition.specs.Start.{Source, image_of}
use Rattle.translate_program.specs.declared.named_file.NamedFile.{NamedFile}
use Rattle.translate_program.specs.Files.{need}
use Rattle.nv_translate.specs.Metered.{TranslatedMetered}
use Rattle.nv_translate.specs.Translated.{Translated}
use Rattle.command_deeds.specs.Checks.{file_that_is_named}
use Rattle.command_deeds.specs.Ends.{CommandAnswer, Due, answers}
use Rattle.command_deeds.specs.World.{World}
use Rattle.command_guest.specs.Imaging.{IsImagedFrom}
use Rattle.command_translate.specs.Held.{AreTranslatedBy}
use Rattle.command_translate.specs.Classes.{HoldAccepted, SpellClasses}
use Rattle.command_translate.specs.Stores.{files_counted}
use Rattle.command_translate.specs.Translate.{IsDueOfImageBy, IsDueOfTranslate}

-- The files of a translation hold classes that are accepted.
pub hold_accepted : (source : Source) (name : List ℕ) (made files : List NamedFile) → Translated source name made → files ≡ made → HoldAccepted files
hold_accepted source name made files t same =
    subst HoldAccepted (sym same) (record { classes = t.classes; spelled = t.held.spelled; accepted = t.held.accepted })

-- they spell these
pub spell_classes : (source : Source) (name : List ℕ) (made files : List NamedFile) → (t : Translated source name made) → files ≡ made
    → SpellClasses files t.classes
spell_classes source name made files t same = subst (λ fs. SpellClasses fs t.classes) (sym same) t.held.spelled

-- ---- those of a translation with a meter

pub hold_metered : (source : Source) (name : List ℕ) (turns : ℕ) (made files : List NamedFile)
    → TranslatedMetered source name turns made → files ≡ made → HoldAccepted files
hold_metered source name turns made files t same =
    subst HoldAccepted (sym same) (record { classes = t.runs.classes; spelled = t.runs.held.spelled; accepted = t.runs.held.accepted })

pub spell_metered : (source : Source) (name : List ℕ) (turns : ℕ) (made files : List NamedFile)
    → (t : TranslatedMetered source name turns made) → files ≡ made → SpellClasses files t.runs.classes
spell_metered source name turns made files t same = subst (λ fs. SpellClasses fs t.runs.classes) (sym same) t.runs.held.spelled

-- ---- `translate`

pub translate_refused : (input : Named) (name : Text) (pages : Pages) (method_bytes : ℕ) (meter : Option ℕ) (w : World) (files : Files) (answer : CommandAnswer)
    → AgreeWith w.shelf.told files → IsImagedFrom input pages files (Err answer)
    → IsDueOfTranslate AreMade input name pages method_bytes meter w (answers answer)
translate_refused input name pages method_bytes meter w files answer agree h = record {
  files = files;
  agree = agree;
  file = file_that_is_named files input;
  file_is = refl;
  source = Err answer;
  source_is = h;
  refused = refl;
  done = tt;
}

files_due : (meter : Option ℕ) (image : Source) (name : Text) (method_bytes : ℕ) (files : List NamedFile) (words : ℕ) (due : Due)
    → AreTranslatedBy meter image name files → AreMade meter image name method_bytes files → words ≡ need (image_of image).mapped → due ≡ files_counted files words
    → IsDueOfImageBy AreMade meter image name method_bytes due
files_due None image name method_bytes files words due t made needs is = record {
  files = files;
  translated = t;
  made = made;
  is = is ∙ ap (files_counted files) needs;
}
files_due (Some turns) image name method_bytes files words due t made needs is = record {
  files = files;
  translated = t.runs;
  made = made;
  is = is ∙ ap (files_counted files) needs;
}

pub translate_due : (input : Named) (name : Text) (pages : Pages) (method_bytes : ℕ) (meter : Option ℕ) (w : World) (files : Files) (image : Source)
    (made : List NamedFile) (words : ℕ) (due : Due) → AgreeWith w.shelf.told files → IsImagedFrom input pages files (Ok image)
    → AreTranslatedBy meter image name made → AreMade meter image name method_bytes made → words ≡ need (image_of image).mapped → due ≡ files_counted made words
    → IsDueOfTranslate AreMade input name pages method_bytes meter w due
translate_due input name pages method_bytes meter w files image made words due agree h t how needs is = record {
  files = files;
  agree = agree;
  file = file_that_is_named files input;
  file_is = refl;
  source = Ok image;
  source_is = h;
  refused = tt;
  done = files_due meter image name method_bytes made words due t how needs is;
}
