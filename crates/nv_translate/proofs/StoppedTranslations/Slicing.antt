-- A linked translation with a meter runs in slices.
use Rattle.std.proofs.Common.{ℕ, ◌^◌, ◌<◌, ◌≤◌, ◌+◌, ◌*◌, ◌≡◌, true, IsTrue, List, Option, Some, arith}
use Rattle.run_definition.specs.Answer.{Answer, answer_fits}
use Rattle.run_definition.specs.Question.{Question}
use Rattle.nv_values.specs.Names.{Text}
use Rattle.elf_definition.specs.Start.{Source, image_of, readable, writable}
use Rattle.elf_image_parts.specs.Pages.{page_words}
use Rattle.class_definition.specs.Linking.{program_of}
use Rattle.emit_layout.specs.Numbers.{choose_number, missing_number}
use Rattle.emit_program_laws.specs.LoadingCodeLaws.Loaded.{paged}
use Rattle.emit_metered_laws.specs.Running.{MeteredProgramsFollow}
use Rattle.emit_metered_laws.specs.Slices.{FirstRunsAreSlices, SpentMetersGoOn}
use Rattle.emit_metered_laws.specs.Spending.{MetersArePaidOrSpent}
use Rattle.emit_metered_laws.proofs.Slices.Adding.{slices-add-up}
use Rattle.emit_metered_laws.proofs.Slices.Beginning.{first-runs-are-slices, slices-add-up-from-start}
use Rattle.emit_metered_laws.proofs.Slices.Slicing.{spent-meters-go-on}
use Rattle.translate_program.specs.declared.built.Built.{Built}
use Rattle.translate_program.specs.Files.{need}
use Rattle.nv_translate.specs.Images.{IsImage}
use Rattle.nv_translate.specs.Linked.{IsLinkedBy}
use Rattle.nv_translate.specs.Loading.{LoadsSource}
use Rattle.nv_translate.specs.Metered.{RunsInSlices}
use Rattle.nv_translate.specs.Standing.{Stands}
use Rattle.nv_translate.proofs.PairedTranslations.{behind_all}
use Rattle.nv_translate.proofs.StoppedTranslations.Stopping.{first-sliced, sliced-sums}

module _ (told : MetersArePaidOrSpent) (follow : MeteredProgramsFollow) {K : Type 0} (reply : K → Question → Option (Answer × K)) (fitting : (k l : K) (q : Question) (a : Answer) → reply k q ≡ Some (a, l) → IsTrue (answer_fits a q)) (source : Source) (name : Text) (method_bytes turns : ℕ) (built : Built) (image : IsImage source)
    (few : turns < 2 ^ 31) (l : IsLinkedBy (Some turns) source name method_bytes built)
    (stands : Stands true source l.code (program_of l.classes))
    (loads : (words : ℕ) → need (image_of source).mapped ≤ words → LoadsSource (Some turns) source l.code (program_of l.classes) words (behind_all source l.code) l.texts l.main.runs.now)
    (same : paged (readable source) (writable source) (page_words source) ≡ (image_of source).memory) where
  one : SpentMetersGoOn reply
  one = spent-meters-go-on told reply fitting

  begins : FirstRunsAreSlices reply
  begins = first-runs-are-slices told follow reply fitting

  pub in-slices : RunsInSlices reply source turns (program_of l.classes)
  in-slices = record {
    first = λ words m k some room long.
        first-sliced follow source name method_bytes turns built image few l stands words (loads words room) same reply fitting m k long begins some;
    next = λ words fields heap t left m k held long.
        one (program_of l.classes) words (image_of source).order choose_number missing_number stands.classes (image_of source).code fields heap t left m k stands.translated held long;
    sums = λ words m more k some small room long.
        sliced-sums follow source name method_bytes turns built image few l stands words (loads words room) same reply fitting m k (omega (arith, long))
        (slices-add-up-from-start reply one begins) more some small long;
    next_sums = λ words fields heap t left m more k held small long.
        slices-add-up reply one (program_of l.classes) words (image_of source).order choose_number missing_number stands.classes (image_of source).code fields heap t left m more k stands.translated held small long;
  }
