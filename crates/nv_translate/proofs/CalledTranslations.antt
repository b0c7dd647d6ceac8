-- What holds where a linked translation calls the system.
use Rattle.std.proofs.Common.{◌≡◌, ℕ, ◌^◌, ◌<◌, ◌≤◌, true, false, None, Some, Option, refl, subst}
use Rattle.run_definition.specs.Answer.{Answer}
use Rattle.run_definition.specs.Memory.{Memory}
use Rattle.run_definition.specs.Question.{Question}
use Rattle.run_definition.specs.Run.{run_of}
use Rattle.nv_values.specs.Names.{Text}
use Rattle.mips_definition.specs.State as guest_state
use Rattle.mips_definition.specs.Step as guest
use Rattle.elf_definition.specs.Start.{Source, image_of, readable, writable}
use Rattle.elf_image_parts.specs.Pages.{page_words}
use Rattle.jvm_definition.specs.Program.{Program}
use Rattle.jvm_definition.specs.Step.{jvm_start, jvm_turn}
use Rattle.class_definition.specs.Linking.{program_of}
use Rattle.emit_layout.specs.Numbers.{choose_number, missing_number}
use Rattle.emit_program_laws.specs.LoadingCodeLaws.Loaded.{paged}
use Rattle.emit_metered_laws.specs.Programs.{IsMeteredProgram, MeteredProgram}
use Rattle.emit_calls_laws.specs.Calls.{CallsAlike}
use Rattle.emit_calls_laws.specs.Running.{EnteredMetersHoldAtCalls, EnteredProgramsHoldAtCalls, HoldByMeter, MeteredProgramsHoldAtCalls, ProgramsHoldAtCalls}
use Rattle.emit_calls_laws.specs.Setting.{HostsSetStates}
use Rattle.emit_calls_laws.specs.Turning.{HoldThere}
use Rattle.translate_program.specs.declared.built.Built.{Built}
use Rattle.translate_program.specs.Files.{need}
use Rattle.nv_translate.specs.Calls.{HoldsAtCalls, HoldsAtMeteredCalls}
use Rattle.nv_translate.specs.Images.{IsImage}
use Rattle.nv_translate.specs.Linked.{IsLinked, IsLinkedBy}
use Rattle.nv_translate.specs.Loading.{LoadsSource}
use Rattle.nv_translate.specs.Standing.{Stands}
use Rattle.nv_translate.proofs.CountedTranslations.Paired.{are-paired, plain}
use Rattle.nv_translate.proofs.PairedTranslations.{behind_all, makers-none, paired}

module _ {K : Type 0} (reply : K → Question → Option (Answer × K)) (sets : HostsSetStates) (source : Source) (name : Text) (method_bytes : ℕ) (built : Built) (image : IsImage source) (same : paged (readable source) (writable source) (page_words source) ≡ (image_of source).memory) where
  abbrev starts : Memory → guest_state.State
  starts memory =
      guest_state.start (image_of source).order (image_of source).entry memory (image_of source).code (image_of source).heap_start
      (image_of source).heap_bytes

  module _ (holds : ProgramsHoldAtCalls reply) (entered : EnteredProgramsHoldAtCalls reply) (l : IsLinked source name method_bytes built)
      (stands : Stands false source l.code (program_of l.classes))
      (loads : (words : ℕ) → need (image_of source).mapped ≤ words → LoadsSource None source l.code (program_of l.classes) words (behind_all source l.code) l.texts l.main.runs.now) where
    abbrev program : Program
    program = program_of l.classes

    pub at-calls : HoldsAtCalls reply source program
    at-calls = record {
      first = λ words m k room.
          subst (λ (memory : Memory). CallsAlike guest.turn (jvm_turn program words) reply m 1 (λ n. HoldThere) (starts memory) k (run_of (jvm_turn program words) reply m (jvm_start program) k))
          same
          (holds (plain source name method_bytes built image l stands words (loads words room)) m k (are-paired source name method_bytes built image l stands words (loads words room)));
      next = λ words fields heap t m k held.
          entered program words (image_of source).order choose_number missing_number stands.classes (image_of source).code fields heap t m k stands.translated held;
      left = λ fields heap t held set changed s so.
          sets (image_of source).order (image_of source).code choose_number fields heap t held set changed s so;
    }

  module _ (turns : ℕ) (few : turns < 2 ^ 31) (holds : MeteredProgramsHoldAtCalls reply) (entered : EnteredMetersHoldAtCalls reply) (l : IsLinkedBy (Some turns) source name method_bytes built)
      (stands : Stands true source l.code (program_of l.classes))
      (loads : (words : ℕ) → need (image_of source).mapped ≤ words → LoadsSource (Some turns) source l.code (program_of l.classes) words (behind_all source l.code) l.texts l.main.runs.now) where
    abbrev classes_program : Program
    classes_program = program_of l.classes

    abbrev metered : (words : ℕ) → need (image_of source).mapped ≤ words → MeteredProgram
    metered words room = record { translated = paired source name method_bytes built l stands words (loads words room); turns = turns }

    are-metered : (words : ℕ) (room : need (image_of source).mapped ≤ words) → IsMeteredProgram (metered words room)
    are-metered words room = record {
      code_is = stands.translated;
      begins = (loads words room).begins;
      memory_is = (loads words room).makes;
      makers_are_none = makers-none source name method_bytes built l stands words (loads words room);
      order_is = refl;
      entry_word = image.entry;
      few_turns = few;
    }

    pub at-metered-calls : HoldsAtMeteredCalls reply source turns classes_program
    at-metered-calls = record {
      first = λ words m k room.
          subst (λ (memory : Memory). CallsAlike guest.turn (jvm_turn classes_program words) reply m 1 (HoldByMeter turns) (starts memory) k (run_of (jvm_turn classes_program words) reply m (jvm_start classes_program) k))
          same
          (holds (metered words room) m k (are-metered words room));
      next = λ words fields heap t left m k held.
          entered classes_program words (image_of source).order choose_number missing_number stands.classes (image_of source).code fields heap t left m k stands.translated held;
      left = λ fields heap t held set changed s so.
          sets (image_of source).order (image_of source).code choose_number fields heap t held set changed s so;
    }
