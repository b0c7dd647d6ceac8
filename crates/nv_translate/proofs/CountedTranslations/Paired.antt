-- A linked translation beside its guest, and what is counted of both in terms of the layout.
use Rattle.std.proofs.Common.{◌≡◌, ℕ, ◌+◌, ◌≤◌, Bool, false, List, None, refl, ap, subst}
use Rattle.std.specs.List.{sum_by}
use Rattle.run_definition.specs.Answer.{Answer, next_answer}
use Rattle.run_definition.specs.Memory.{Memory}
use Rattle.nv_values.specs.Names.{Text}
use Rattle.run_simulation_laws.specs.Trail.{trail_of, after_call}
use Rattle.mips_definition.specs.State as guest
use Rattle.mips_definition.specs.Step as guest_step
use Rattle.elf_definition.specs.Start.{Source, image_of, readable, writable}
use Rattle.elf_image_parts.specs.Pages.{page_words}
use Rattle.jvm_definition.specs.declared.instruction.Instruction.{Instruction}
use Rattle.jvm_definition.specs.Program.{Program}
use Rattle.class_definition.specs.Linking.{program_of}
use Rattle.emit_paths_laws.specs.Classes.{reads, switches, entries, executed}
use Rattle.emit_paths_laws.specs.Guest.{crossings, partial}
use Rattle.emit_program_laws.specs.LoadingCodeLaws.Loaded.{paged}
use Rattle.emit_program_laws.specs.TrampolineLaws.Classes.{is_span, counted_spans}
use Rattle.emit_program_laws.specs.Translated as runs
use Rattle.emit_program_laws.specs.Translated.{TranslatedProgram, IsTranslatedProgram}
use Rattle.translate_program.specs.declared.built.Built.{Built}
use Rattle.nv_translate.specs.Linked.{IsLinked}
use Rattle.nv_translate.specs.Images.{IsImage}
use Rattle.nv_translate.specs.Loading.{LoadsSource}
use Rattle.nv_translate.specs.Standing.{Stands}
use Rattle.nv_translate.specs.Counts.{layout_spans, is_span_method, guest_trail, class_trail, whole_class_trail}
use Rattle.nv_translate.proofs.CountedTranslations.Spans.{spans-counted, spans-tested}
use Rattle.nv_translate.proofs.PairedTranslations.{behind_all, makers-none, paired}

module _ (source : Source) (name : Text) (method_bytes : ℕ) (built : Built) (image : IsImage source) (l : IsLinked source name method_bytes built)
    (stands : Stands false source l.code (program_of l.classes)) (words : ℕ)
    (loads : LoadsSource None source l.code (program_of l.classes) words (behind_all source l.code) l.texts l.main.runs.now) where
  abbrev program : Program
  program = program_of l.classes

  abbrev pub plain : TranslatedProgram
  plain = paired source name method_bytes built l stands words loads

  pub are-paired : IsTranslatedProgram plain
  are-paired = record {
    code_is = stands.translated;
    begins = loads.begins;
    memory_is = loads.makes;
    makers_are_none = makers-none source name method_bytes built l stands words loads;
    order_is = refl;
    entry_word = image.entry;
  }

  -- ---- what is counted of both

  module _ (same : paged (readable source) (writable source) (page_words source) ≡ (image_of source).memory) (m : ℕ) (answers : List Answer) where
    abbrev guest_starts : Memory → guest.State
    guest_starts memory =
        guest.start (image_of source).order (image_of source).entry memory (image_of source).code (image_of source).heap_start (image_of source).heap_bytes

    trails : runs.guest_trail plain m answers ≡ guest_trail source m answers
    trails = ap (λ memory. after_call guest_step.turn (trail_of guest_step.turn next_answer m (guest_starts memory) answers)) same

    spans : counted_spans stands.classes ≡ layout_spans built.layout
    spans = spans-counted built.layout l.code stands.classes stands.classes_are l.spans_are

    tests : is_span stands.classes ≡ is_span_method built.layout
    tests = spans-tested built.layout l.code stands.classes stands.classes_are l.spans_are l.code_is.placed.follow

    abbrev crossed : ℕ
    crossed = crossings (layout_spans built.layout) (guest_trail source m answers)

    crossed-is : crossings (counted_spans stands.classes) (runs.guest_trail plain m answers) ≡ crossed
    crossed-is = λ i. crossings (spans i) (trails i)

    -- what is counted of the classes
    abbrev sum_of : (Instruction → ℕ) → ℕ
    sum_of weight = sum_by (executed program weight) (class_trail program words m answers)

    pub counted-reads : sum_of reads ≤ partial (runs.guest_trail plain m answers) → sum_of reads ≤ partial (guest_trail source m answers)
    counted-reads few = subst (λ trail. sum_of reads ≤ partial trail) trails few

    pub counted-switches : sum_of switches ≤ crossings (counted_spans stands.classes) (runs.guest_trail plain m answers) + 1
        → sum_of switches ≤ crossed + 1
    counted-switches few = subst (λ n. sum_of switches ≤ n + 1) crossed-is few

    -- over the whole run
    abbrev all_of : (Instruction → ℕ) → ℕ
    all_of weight = sum_by (executed program weight) (whole_class_trail program words m answers)

    pub counted-entries : all_of (entries (is_span stands.classes)) ≤ crossings (counted_spans stands.classes) (runs.guest_trail plain m answers) + 1
        → all_of (entries (is_span_method built.layout)) ≤ crossed + 1
    counted-entries few =
        subst (λ (test : ℕ → Bool). all_of (entries test) ≤ crossed + 1) tests
        (subst (λ n. all_of (entries (is_span stands.classes)) ≤ n + 1) crossed-is few)
