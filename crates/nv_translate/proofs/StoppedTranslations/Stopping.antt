-- A linked translation with a meter stops by it.
use Rattle.std.proofs.Common.{◌≡◌, ℕ, ◌+◌, ◌*◌, ◌^◌, ◌<◌, ◌≤◌, true, IsTrue, List, Option, Some, refl, subst, ◌∙◌, arith}
use Rattle.std.specs.Prelude.{sum}
use Rattle.run_definition.specs.Answer.{Answer, answer_fits}
use Rattle.run_definition.specs.Memory.{Memory}
use Rattle.run_definition.specs.Question.{Question}
use Rattle.run_definition.specs.Run.{run_of}
use Rattle.nv_values.specs.Names.{Text}
use Rattle.run_simulation_laws.specs.Meter.{IsMetered}
use Rattle.run_simulation_laws.proofs.Paying.{metered-start}
use Rattle.mips_definition.specs.State as guest_state
use Rattle.mips_definition.specs.Step as guest
use Rattle.elf_definition.specs.Start.{Source, image_of, readable, writable}
use Rattle.elf_image_parts.specs.Pages.{page_words}
use Rattle.elf_definition.specs.Loading.{start_of}
use Rattle.jvm_definition.specs.Program.{Program}
use Rattle.jvm_definition.specs.Step.{loaded_program, loaded_turn, jvm_start, jvm_turn}
use Rattle.class_definition.specs.Linking.{program_of}
use Rattle.emit_paths_laws.proofs.Loaded.{loaded_run}
use Rattle.emit_program_laws.specs.LoadingCodeLaws.Loaded.{paged}
use Rattle.emit_layout.specs.Numbers.{choose_number}
use Rattle.emit_metered_laws.specs.Metering.{spent}
use Rattle.emit_metered_laws.specs.Programs.{IsMeteredProgram, LoadsByMeterWithin, MeteredProgram}
use Rattle.emit_metered_laws.specs.Running.{MeteredProgramsFollow, from_start}
use Rattle.emit_metered_laws.specs.Slices.{FirstRunsAreSlices, IsSlice, SlicesAddUpFromStart, sliced}
use Rattle.translate_program.specs.declared.built.Built.{Built}
use Rattle.translate_program.specs.Files.{meter_allow}
use Rattle.nv_translate.specs.Images.{IsImage}
use Rattle.nv_translate.specs.Linked.{IsLinkedBy}
use Rattle.nv_translate.specs.Loading.{LoadsSource}
use Rattle.nv_translate.specs.Standing.{Stands}
use Rattle.nv_translate.proofs.PairedTranslations.{behind_all, makers-none, paired}

module _ (law : MeteredProgramsFollow) (source : Source) (name : Text) (method_bytes turns : ℕ) (built : Built) (image : IsImage source)
    (few : turns < 2 ^ 31) (l : IsLinkedBy (Some turns) source name method_bytes built)
    (stands : Stands true source l.code (program_of l.classes)) (words : ℕ)
    (loads : LoadsSource (Some turns) source l.code (program_of l.classes) words (behind_all source l.code) l.texts l.main.runs.now)
    (same : paged (readable source) (writable source) (page_words source) ≡ (image_of source).memory) where
  abbrev program : Program
  program = program_of l.classes

  abbrev mapped : ℕ
  mapped = (image_of source).mapped

  abbrev metered : MeteredProgram
  metered = record { translated = paired source name method_bytes built l stands words loads; turns = turns }

  are-metered : IsMeteredProgram metered
  are-metered = record {
    code_is = stands.translated;
    begins = loads.begins;
    memory_is = loads.makes;
    makers_are_none = makers-none source name method_bytes built l stands words loads;
    order_is = refl;
    entry_word = image.entry;
    few_turns = few;
  }

  loads-within : LoadsByMeterWithin metered (131072 * (mapped + 4))
  loads-within = let time = loads.in_time in omega (arith, time)

  -- ---- over a kind of system, whose answers fit

  module _ {K : Type 0} (reply : K → Question → Option (Answer × K)) (fitting : (k l : K) (q : Question) (a : Answer) → reply k q ≡ Some (a, l) → IsTrue (answer_fits a q))
      (m : ℕ) (system : K) (room : meter_allow mapped turns ≤ m) where
    abbrev starts : Memory → guest_state.State
    starts memory =
        guest_state.start (image_of source).order (image_of source).entry memory (image_of source).code (image_of source).heap_start
        (image_of source).heap_bytes

    pub stopped : IsMetered spent (run_of guest.turn reply turns (start_of (image_of source)) system) (run_of (jvm_turn program words) reply m (jvm_start program) system)
    stopped =
        subst (λ (memory : Memory). IsMetered spent (run_of guest.turn reply turns (starts memory) system) (run_of (jvm_turn program words) reply m (jvm_start program) system))
        same
        (metered-start (from_start metered (131072 * (mapped + 4)) (law metered (131072 * (mapped + 4)) are-metered loads-within)) reply fitting m system room)

    -- that is a slice, if a turn at least is on the meter
    pub first-sliced : FirstRunsAreSlices reply → 1 ≤ turns → IsSlice reply (image_of source).order (image_of source).code choose_number turns (start_of (image_of source)) system (run_of (jvm_turn program words) reply m (jvm_start program) system)
    first-sliced first some =
        subst (λ (memory : Memory). IsSlice reply (image_of source).order (image_of source).code choose_number turns (starts memory) system (run_of (jvm_turn program words) reply m (jvm_start program) system))
        same
        (first metered (131072 * (mapped + 4)) m system are-metered loads-within some room)

    -- so do the classes as they are loaded
    pub ended : IsMetered spent (run_of guest.turn reply turns (start_of (image_of source)) system) (run_of loaded_turn reply m (loaded_program program words) system)
    ended =
        let of_state = stopped in
        let of_loaded = loaded_run program words reply m (jvm_start program) system in
        record {
          questions = of_loaded.questions ∙ of_state.questions;
          system = of_loaded.system ∙ of_state.system;
          goes = λ going. of_loaded.outcome ∙ of_state.goes going;
          over = λ over. of_loaded.outcome ∙ of_state.over over;
        }

    -- slices add up
    pub sliced-sums : SlicesAddUpFromStart reply → (more : List ℕ) → 1 ≤ turns → turns + sum more < 2 ^ 31 → meter_allow mapped (turns + sum more) ≤ m → IsMetered spent (run_of guest.turn reply (turns + sum more) (start_of (image_of source)) system) (sliced (run_of (jvm_turn program words) reply m) choose_number more (jvm_start program) system)
    sliced-sums adds more some small long =
        subst (λ (memory : Memory). IsMetered spent (run_of guest.turn reply (turns + sum more) (starts memory) system) (sliced (run_of (jvm_turn program words) reply m) choose_number more (jvm_start program) system))
        same
        (adds metered (131072 * (mapped + 4)) m more system are-metered loads-within some small long)
