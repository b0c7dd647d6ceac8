-- The checks of a program, stage by stage.
use Rattle.std.proofs.Common.{◌≡◌, List, ℕ, Option, Some, None, Result, Ok, Err, refl, sym, ap, ◌∙◌, subst}
use Rattle.command_words.specs.declared.named.Named.{Named}
use Rattle.command_words.specs.declared.pages.Pages.{Pages}
use Rattle.elf_definition.specs.Area.{area}
use Rattle.elf_definition.specs.Fault.{elf_fault, IsRunsOf}
use Rattle.elf_definition.specs.declared.range.Range.{Range}
use Rattle.elf_definition.specs.ImageFault.{image_fault}
use Rattle.elf_definition.specs.Start.{Source}
use Rattle.elf_definition.specs.declared.elf_fault.ElfFault.{ElfFault}
use Rattle.elf_definition.specs.declared.image_fault.ImageFault.{ImageFault}
use Rattle.nv_outside.specs.Files.{Files}
use Rattle.command_deeds.proofs.DeedLemmas.{file_is, file_is_not, gives_end_as, makes_over, same_shelf}
use Rattle.command_deeds.specs.Checks.{Behind, Check, file_at, file_that_is_named, unless_fault}
use Rattle.command_deeds.specs.Ends.{CommandAnswer, Gives, GivesEnd, Makes, Over, says}
use Rattle.command_deeds.specs.World.{Seen}
use Rattle.command_deeds.specs.declared.done.Done.TheVariants.{ElfRefused, ImageRefused}
use Rattle.command_deeds.specs.declared.ending.Ending.{Ending}
use Rattle.command_deeds.specs.declared.stop.Stop.{Stop}
use Rattle.command_guest.specs.Imaging.{IsImageChecked, IsImaged, IsImagedFrom, source_of}

-- ---- one file

pub elf_refused : (pages : Pages) (file : List ℕ) (fault : ElfFault) → elf_fault file ≡ Some fault → IsImaged pages file (Err (says (ElfRefused fault)))
elf_refused pages file fault e =
    subst (λ found. Behind (unless_fault found ElfRefused (source_of pages file)) IsImageChecked (Err (says (ElfRefused fault)))) (sym e) refl

-- its image was looked at
image_checked : (pages : Pages) (file : List ℕ) (runs : List Range) (check : Check Source) → elf_fault file ≡ None → IsRunsOf (area file) runs
    → check ≡ unless_fault (image_fault file runs pages.heap pages.stack) ImageRefused (source_of pages file) → IsImaged pages file check
image_checked pages file runs check accepted are is =
    subst (λ found. Behind (unless_fault found ElfRefused (source_of pages file)) IsImageChecked check) (sym accepted)
    (record { runs = runs; are_runs = are; is = is })

pub image_made : (pages : Pages) (file : List ℕ) (runs : List Range) (image : Source) → elf_fault file ≡ None → IsRunsOf (area file) runs
    → image_fault file runs pages.heap pages.stack ≡ None → image ≡ source_of pages file → IsImaged pages file (Ok image)
image_made pages file runs image accepted are passed is =
    image_checked pages file runs (Ok image) accepted are
    (ap (λ s. Ok s) is ∙ ap (λ found. unless_fault found ImageRefused (source_of pages file)) (sym passed))

pub image_refused : (pages : Pages) (file : List ℕ) (runs : List Range) (fault : ImageFault) → elf_fault file ≡ None → IsRunsOf (area file) runs
    → image_fault file runs pages.heap pages.stack ≡ Some fault → IsImaged pages file (Err (says (ImageRefused fault)))
image_refused pages file runs fault accepted are failed =
    image_checked pages file runs (Err (says (ImageRefused fault))) accepted are
    (ap (λ found. unless_fault found ImageRefused (source_of pages file)) (sym failed))

-- ---- the file of a name

-- it is not there
pub lacks_image : (input : Named) (pages : Pages) (name : List ℕ) (shelf now : Seen Files) (end : Result CommandAnswer Stop) → name ≡ input.text
    → GivesEnd (λ files answer. Err answer ≡ file_at files input.word name) shelf now end
    → GivesEnd (λ files answer. IsImagedFrom input pages files (Err answer)) shelf now end
lacks_image input pages name shelf now end is q =
    gives_end_as (λ files answer. Err answer ≡ file_at files input.word name) (λ files answer. IsImagedFrom input pages files (Err answer))
    shelf shelf now end (same_shelf shelf)
    (λ files answer h. subst (λ file. Behind file (IsImaged pages) (Err answer)) (file_is_not input name files answer is h) refl) q

-- its image was made, or not
pub image_gives : (input : Named) (pages : Pages) (name file bytes : List ℕ) (shelf now : Seen Files) (result : Result Source Ending)
    → name ≡ input.text → bytes ≡ file → Over (λ files. Ok file ≡ file_at files input.word name) shelf now → Makes (IsImaged pages bytes) result
    → Gives (IsImagedFrom input pages) shelf now result
image_gives input pages name file bytes shelf now result is same found makes =
    makes_over (λ files. Ok file ≡ file_at files input.word name) (IsImaged pages bytes) (IsImagedFrom input pages) shelf now result found
    (λ files check h made. subst (λ f. Behind f (IsImaged pages) check) (file_is input name file bytes files is same h) made) makes

-- an image that was made is that of its file
pub image_is : (pages : Pages) (file : List ℕ) (image : Source) → IsImaged pages file (Ok image) → image ≡ source_of pages file
image_is pages file image h = by_elf (elf_fault file) h
  where
    by_image : (found : Option ImageFault) → Ok image ≡ unless_fault found ImageRefused (source_of pages file) → image ≡ source_of pages file
    by_image None e = cc
    by_image (Some fault) e = cc

    by_elf : (found : Option ElfFault) → Behind (unless_fault found ElfRefused (source_of pages file)) IsImageChecked (Ok image) → image ≡ source_of pages file
    by_elf None checked = by_image (image_fault file checked.runs pages.heap pages.stack) checked.is
    by_elf (Some fault) e = cc
