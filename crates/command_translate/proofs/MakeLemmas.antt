-- What is due of the program that is made.
use Rattle.std.proofs.Common.{◌≡◌, ◌≢◌, ℕ, ℤ, ◌≤◌, ◌%◌, false, pos, List, [], Option, None, Some, Result, Ok, Err, ap, ◌∙◌, subst, arith}
use Rattle.elf_definition.specs.Area.{area}
use Rattle.elf_definition.specs.Fault.{elf_fault, IsRunsOf}
use Rattle.elf_definition.specs.declared.range.Range.{Range}
use Rattle.elf_definition.specs.ImageFault.{image_fault}
use Rattle.elf_definition.specs.Start.{Source}
use Rattle.elf_definition.specs.FileFields.{words}
use Rattle.mips_asm.specs.File.{IsFileOf}
use Rattle.nv_translate.specs.Made.{AreMade}
use Rattle.command_translate.specs.MadeWords.{made_words}
use Rattle.class_definition.specs.declared.class.Class.{Class}
use Rattle.translate_program.specs.declared.named_file.NamedFile.{NamedFile}
use Rattle.nv_translate.specs.Translated.{Translated}
use Rattle.command_translate.specs.MadeEnds.{ExitsLow, made_outcome}
use Rattle.command_deeds.proofs.DeedLemmas.{due_as}
use Rattle.command_deeds.specs.Checks.{Behind, unless_fault}
use Rattle.command_deeds.specs.Ends.{CommandAnswer, Comes, Due}
use Rattle.command_deeds.specs.Line.{status_of}
use Rattle.command_deeds.specs.World.{World}
use Rattle.command_deeds.specs.declared.done.Done.{Done}
use Rattle.command_deeds.specs.declared.done.Done.TheVariants.{ElfRefused, Exited, ImageRefused, Spent}
use Rattle.command_deeds.specs.Runs.{answer_of}
use Rattle.command_deeds.specs.declared.stop.Stop.{Stop}
use Rattle.command_guest.proofs.ImagingLemmas.{image_is}
use Rattle.command_guest.specs.Imaging.{IsImageChecked, IsImaged, source_of}
use Rattle.command_guest.specs.declared.imaging.TheConstants.{DEFAULT_PAGES}
use Rattle.command_translate.proofs.RunLemmas.{same_end}
use Rattle.command_translate.specs.Make.{IsDueOfMake, IsEndOfTranslation, classes_end, interp_end, made_name, made_steps, told}

-- ---- both runs

not_spent : (end : Option Done) (status : ℤ) → end ≡ Some (Exited status) → end ≢ Some Spent
not_spent end status is spent = cc

-- a status of seven bits is that of the process
low_status : (end : Done) (status : ℕ) → status ≤ 127 → end ≡ Exited (pos status) → status_of end ≡ status
low_status end status low is =
    let small : status % 256 ≡ status = omega (arith, low) in
    ap status_of is ∙ small

-- it exits with one status of seven bits
pub record IsDueOfBoth (count moment : ℕ) (source : Source) (made : List Class) (due : Due) : Type 0 where
  pub status : ℕ
  pub low : status ≤ 127
  pub interp : interp_end (made_steps count) moment source ≡ Some (Exited (pos status))
  pub classes : classes_end (made_steps count) moment source made ≡ Some (Exited (pos status))
  pub is : due ≡ told count status status

-- what is due of the image of the program
abbrev pub IsDueOfMade : ℕ → ℕ → ℕ → Source → Due → Type 0
IsDueOfMade count method_bytes moment source due =
    (files : List NamedFile) × (t : Translated source made_name files) × AreMade None source made_name method_bytes files × IsDueOfBoth count moment source t.classes due

-- the program exits by itself, and both runs are told
pub ends_told : (count method_bytes moment steps : ℕ) (file this : List ℕ) (source : Source) (interp classes : Done) (i k : ℕ) → steps ≡ made_steps count
    → source ≡ source_of DEFAULT_PAGES this → this ≡ file → ExitsLow (made_outcome (made_steps count) moment file)
    → interp_end steps moment source ≡ Some interp
    → IsEndOfTranslation steps moment source method_bytes classes → i ≡ status_of interp → k ≡ status_of classes
    → IsDueOfMade count method_bytes moment source (told count i k)
ends_told count method_bytes moment steps file this source interp classes i k same imaged is_file exits first second is_i is_k =
    let by = made_steps count in
    let t = second.translated in
    let as_source : source ≡ source_of DEFAULT_PAGES file = imaged ∙ ap (source_of DEFAULT_PAGES) is_file in
    let end : interp_end by moment source ≡ Some (Exited (pos exits.status)) = ap (interp_end by moment) as_source ∙ ap answer_of exits.is in
    let alike : classes_end by moment source t.classes ≡ interp_end by moment source =
    same_end by moment source second.files t (not_spent (interp_end by moment source) (pos exits.status) end) in
    let one : interp_end by moment source ≡ Some interp = subst (λ n. interp_end n moment source ≡ Some interp) same first in
    let two : classes_end by moment source t.classes ≡ Some classes =
    subst (λ n. classes_end n moment source t.classes ≡ Some classes) same second.is in
    let interp_is : interp ≡ Exited (pos exits.status) = cc (one, end) in
    let classes_is : classes ≡ Exited (pos exits.status) = cc (two, alike, end) in
    let i_is : i ≡ exits.status = is_i ∙ low_status interp exits.status exits.low interp_is in
    let k_is : k ≡ exits.status = is_k ∙ low_status classes exits.status exits.low classes_is in (
      second.files,
      t,
      second.made,
      record {
        status = exits.status;
        low = exits.low;
        interp = end;
        classes = alike ∙ end;
        is = ap (λ n. told count n k) i_is ∙ ap (told count exits.status) k_is;
      },
    )

-- ---- the command

-- the program in its file
made_due : (count method_bytes moment : ℕ) (file this : List ℕ) (image : Source) (due : Due) → IsFileOf (words (made_words count)) [] file → this ≡ file
    → image ≡ source_of DEFAULT_PAGES this → IsDueOfMade count method_bytes moment image due → IsDueOfMake AreMade count method_bytes moment due
made_due count method_bytes moment file this image due is same imaged h =
    let made = subst (λ s. IsDueOfMade count method_bytes moment s due) (imaged ∙ ap (source_of DEFAULT_PAGES) same) h in
    record {
      file = file;
      file_is = is;
      files = made.0;
      translated = made.1;
      made = made.2;
      status = made.3.status;
      low = made.3.low;
      interp = made.3.interp;
      classes = made.3.classes;
      done = made.3.is;
    }

-- its image was made, and the rest came to this
pub make_comes : (count method_bytes moment : ℕ) (file this : List ℕ) (image : Source) (w v : World) (end : Result CommandAnswer Stop)
    → IsFileOf (words (made_words count)) [] file → this ≡ file
    → IsImaged DEFAULT_PAGES this (Ok image) → Comes false (λ x. IsDueOfMade count method_bytes moment image) w v end
    → Comes false (λ x. IsDueOfMake AreMade count method_bytes moment) w v end
make_comes count method_bytes moment file this image w v end is same imaged comes =
    due_as false (λ x. IsDueOfMade count method_bytes moment image) (λ x. IsDueOfMake AreMade count method_bytes moment) w v end
    (λ due h. made_due count method_bytes moment file this image due is same (image_is DEFAULT_PAGES this image imaged) h) comes

-- it is not refused
pub make_accepted : (file this : List ℕ) (answer : CommandAnswer) → this ≡ file → elf_fault file ≡ None
    → ((runs : List Range) → IsRunsOf (area file) runs → image_fault file runs 256 64 ≡ None) → IsImaged DEFAULT_PAGES this (Err answer) → ⊥
make_accepted file this answer same accepted passed refused =
    let source = source_of DEFAULT_PAGES file in
    let checked : IsImageChecked source (Err answer) = subst (λ f. Behind (unless_fault f ElfRefused source) IsImageChecked (Err answer)) accepted
    (subst (λ f. IsImaged DEFAULT_PAGES f (Err answer)) same refused) in
    let e : Err answer ≡ Ok source = checked.is ∙ ap (λ f. unless_fault f ImageRefused source) (passed checked.runs checked.are_runs) in
    cc
