use Rattle.std.proofs.Common.{ℕ, ◌+◌, ◌*◌, false, None, subst, arith}
use Rattle.run_definition.specs.Answer.{next_answer}
use Rattle.run_definition.specs.Memory.{Memory}
use Rattle.run_simulation_laws.specs.Runs.{SameRuns}
use Rattle.mips_definition.specs.State as guest_state
use Rattle.mips_definition.specs.Step as guest
use Rattle.elf_definition.specs.Start.{image_of}
use Rattle.jvm_definition.specs.Program.{Program}
use Rattle.jvm_definition.specs.Step.{jvm_start, jvm_turn}
use Rattle.class_definition.specs.Linking.{program_of}
use Rattle.emit_program_laws.specs.Translated.{TranslatedProgram, LoadsWithin}
use Rattle.translate_program.specs.Files.{allow}
use Rattle.nv_translate.proofs.PairedTranslations.{behind_all}
use Rattle.nv_translate.proofs.CountedTranslations.Paired.{plain, are-paired}
use Rattle.nv_translate.proofs.laws.translations_run_alike.Goals as goal

pub returns : goal.returns
returns c source name method_bytes built image large l = record {
  same = λ words answers room.
      let program : Program = program_of l.classes in
      let mapped : ℕ = (image_of source).mapped in
      let behind : ℕ = behind_all source l.code in
      let stands = c.translations_stand.ensures None source name method_bytes built image.code large l in
      let apart = c.others_do_not_load.ensures.behind false source method_bytes l.code behind l.code_is (omega arith) in
      let loads = c.translations_load.ensures None source name method_bytes built image.pages l words behind room apart in
      let translated : TranslatedProgram = plain source name method_bytes built image l stands words loads in
      let time = loads.in_time in
      let within : LoadsWithin translated (131072 * (mapped + 4)) = omega (arith, time) in
      subst (λ (memory : Memory). SameRuns guest.turn (jvm_turn program words) next_answer (allow mapped) (guest_state.start (image_of source).order (image_of source).entry memory (image_of source).code (image_of source).heap_start (image_of source).heap_bytes) (jvm_start program) answers)
      (c.images_are_pages.ensures source image.pages.whole).memory_is
      (c.translated_programs_run_alike.ensures translated (131072 * (mapped + 4)) (are-paired source name method_bytes built image l stands words loads) within answers);
}
