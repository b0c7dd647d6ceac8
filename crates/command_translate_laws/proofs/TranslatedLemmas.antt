-- What `translate` stored, and that it runs by its name as the program does.
use Rattle.std.proofs.Common.{◌≡◌, ◌∙◌, ℕ, List, Option, Some, None, Ok, Err, IfErr, IfOk, refl, sym, ap, subst}
use Rattle.std.proofs.lemmas.Option.{same_Some}
use Rattle.nv_outside.specs.Files.{AgreeWith, Files}
use Rattle.nv_values.specs.Names.{Text}
use Rattle.elf_definition.specs.declared.elf_fault.ElfFault.{ElfFault}
use Rattle.elf_definition.specs.declared.image_fault.ImageFault.{ImageFault}
use Rattle.elf_definition.specs.Fault.{elf_fault}
use Rattle.elf_definition.specs.ImageFault.{image_fault}
use Rattle.elf_definition.specs.Start.{Source}
use Rattle.nv_translate.specs.Made.{AreMade}
use Rattle.command_words.specs.declared.named.Named.{Named}
use Rattle.command_words.specs.declared.pages.Pages.{Pages}
use Rattle.command_deeds.specs.Checks as checks
use Rattle.command_deeds.specs.Checks.{Behind, Check, unless_fault}
use Rattle.command_deeds.specs.Ends.{CommandAnswer, Due, answers}
use Rattle.command_deeds.specs.World.{World}
use Rattle.command_deeds.specs.declared.done.Done.TheVariants as done
use Rattle.command_guest.specs.Imaging.{IsImageChecked, IsImaged, source_of}
use Rattle.command_frames_laws.proofs.RefusingLemmas.{Refuses}
use Rattle.command_translate.specs.Translate.{IsDueOfImageBy, IsDueOfTranslate}
use Rattle.command_translate_laws.specs.ByName.{StoresTranslation}
use Rattle.command_translate_laws.proofs.NamedRunLemmas.{runs-by-meter, runs-within}
use Rattle.command_translate_laws.proofs.StandLemmas.{made-stand}

-- ---- the program that was translated

-- it is this, or was refused
abbrev IsOrRefuses : Source → Check Source → Type 0
IsOrRefuses source (Ok image) = image ≡ source
IsOrRefuses source (Err answer) = Refuses answer

image-or : (source : Source) (fault : Option ImageFault) (check : Check Source) → check ≡ unless_fault fault done.ImageRefused source → IsOrRefuses source check
image-or source None check is = subst (IsOrRefuses source) (sym is) refl
image-or source (Some f) check is = subst (IsOrRefuses source) (sym is) (λ e. cc)

elf-or : (source : Source) (fault : Option ElfFault) (check : Check Source) → Behind (unless_fault fault done.ElfRefused source) IsImageChecked check
    → IsOrRefuses source check
elf-or source None check h = image-or source (image_fault source.file h.runs source.heap source.stack) check h.is
elf-or source (Some f) check h = subst (IsOrRefuses source) (sym h) (λ e. cc)

-- ---- its files

image-stores : (meter : Option ℕ) (source : Source) (name : Text) (method_bytes : ℕ) (due : Due) → IsDueOfImageBy AreMade meter source name method_bytes due
    → StoresTranslation meter source name due
image-stores None source name method_bytes due d = record {
  files = d.files;
  is = d.is;
  stand = made-stand None source name method_bytes d.files d.made;
  runs = runs-within source name d.files d.translated;
}
image-stores (Some turns) source name method_bytes due d = record {
  files = d.files;
  is = d.is;
  stand = made-stand (Some turns) source name method_bytes d.files d.made;
  runs = runs-by-meter source name turns d.files d.translated;
}

pub stores-translation : (input : Named) (name : Text) (pages : Pages) (method_bytes : ℕ) (meter : Option ℕ) (files : Files) (file : List ℕ) (w : World)
    (due : Due) (answer : CommandAnswer) → w.shelf.told ≡ Some files → files input.text ≡ Some file
    → IsDueOfTranslate AreMade input name pages method_bytes meter w due → due.answer ≡ Some answer → answer.done ≡ done.Good
    → StoresTranslation meter (source_of pages file) name due
stores-translation input name pages method_bytes meter files file w due answer told there d is good = by d.source is-program d.refused d.done
  where
    file-there : d.file ≡ Ok file
    file-there =
        let same : d.files ≡ files = subst (λ t. AgreeWith t d.files) told d.agree in
        d.file_is ∙ ap (checks.there input.word input.text) (ap (λ (f : Files). f input.text) same ∙ there)

    is-program : IsOrRefuses (source_of pages file) d.source
    is-program = elf-or (source_of pages file) (elf_fault file) d.source (subst (λ f. Behind f (IsImaged pages) d.source) file-there d.source_is)

    by : (check : Check Source) → IsOrRefuses (source_of pages file) check → IfErr check (λ a. due ≡ answers a)
        → IfOk check (λ image. IsDueOfImageBy AreMade meter image name method_bytes due) → StoresTranslation meter (source_of pages file) name due
    by (Ok image) same none made =
        image-stores meter (source_of pages file) name method_bytes due (subst (λ s. IsDueOfImageBy AreMade meter s name method_bytes due) same made)
    by (Err refusal) refuses so none =
        absurd (refuses (ap (λ (a : CommandAnswer). a.done) (same_Some refusal answer (sym (ap (λ (x : Due). x.answer) so) ∙ is)) ∙ good))
