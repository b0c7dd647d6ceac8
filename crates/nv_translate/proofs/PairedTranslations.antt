-- A linked translation beside its guest, with a meter or without.
use Rattle.std.proofs.Common.{ℕ, List, Option}
use Rattle.std.specs.Prelude.{is_some}
use Rattle.nv_values.specs.Names.{Text}
use Rattle.elf_definition.specs.Start.{Source, image_of, readable, writable}
use Rattle.elf_image_parts.specs.Pages.{page_words}
use Rattle.class_definition.specs.Linking.{program_of}
use Rattle.emit_layout.specs.Numbers.{main_methods, run_number, choose_number, pages_number, missing_number}
use Rattle.emit_program_laws.specs.LoadingCodeLaws.Loaded.{MakersAreNone, run_shares}
use Rattle.emit_program_laws.specs.TrampolineLaws.Classes.{is_span}
use Rattle.emit_program_laws.specs.Translated.{TranslatedProgram}
use Rattle.translate_classes.specs.Content.{text_runs}
use Rattle.translate_program.specs.Classes.{Placed}
use Rattle.translate_program.specs.DataFiles.{class_count, filled_pages, first_method}
use Rattle.translate_program.specs.MainFile.{beginning_of}
use Rattle.translate_program.specs.Translation.{code_methods}
use Rattle.translate_program.specs.declared.built.Built.{Built}
use Rattle.nv_translate.specs.Linked.{IsLinkedBy}
use Rattle.nv_translate.specs.Loading.{LoadsSource}
use Rattle.nv_translate.specs.Standing.{Stands}
use Rattle.nv_translate.proofs.CountedTranslations.Spans.{number-within}
use Rattle.nv_translate.proofs.TranslatedLoading.Others.{code-takes-no-part}

-- the number behind those of all methods
abbrev pub behind_all : Source → List Placed → ℕ
behind_all source code = first_method (code_methods code) (class_count (filled_pages source))

module _ {meter : Option ℕ} (source : Source) (name : Text) (method_bytes : ℕ) (built : Built) (l : IsLinkedBy meter source name method_bytes built)
    (stands : Stands (is_some meter) source l.code (program_of l.classes)) (words : ℕ)
    (loads : LoadsSource meter source l.code (program_of l.classes) words (behind_all source l.code) l.texts l.main.runs.now) where
  -- the program of classes, which is to run as the guest
  abbrev pub paired : TranslatedProgram
  paired = record {
    program = program_of l.classes;
    words = words;
    beginning = beginning_of source;
    order = (image_of source).order;
    code = (image_of source).code;
    readable = readable source;
    writable = writable source;
    page_words = page_words source;
    own = run_number;
    choose = choose_number;
    missing = missing_number;
    pages = pages_number;
    apart = behind_all source l.code;
    classes = stands.classes;
    texts = l.texts;
    shares = run_shares text_runs l.main.runs.now;
    fillers = loads.fillers;
  }

  -- no method that makes memory is a span's
  pub makers-none : MakersAreNone (is_span stands.classes) pages_number loads.fillers
  makers-none =
      loads.others (is_span stands.classes)
      (λ m is.
      let within = number-within m l.code stands.classes stands.classes_are 0 main_methods l.code_is.placed.follow is in
      code-takes-no-part source l.code m within.0 within.1)
