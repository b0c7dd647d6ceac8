-- A linked translation is warm.
use Rattle.std.proofs.Common.{◌≡◌, ℕ, ◌+◌, ◌*◌, ◌≤◌, true, false, List, None, All, ap, subst, arith}
use Rattle.run_definition.specs.Answer.{Answer, next_answer}
use Rattle.run_definition.specs.Memory.{Memory}
use Rattle.run_definition.specs.Run.{Run, run_of}
use Rattle.run_definition.specs.declared.outcome.Outcome.TheVariants.{Going}
use Rattle.nv_values.specs.Names.{Text}
use Rattle.run_simulation_laws.specs.Runs.{ComesBy}
use Rattle.mips_definition.specs.State as guest
use Rattle.mips_definition.specs.Step as guest_step
use Rattle.elf_definition.specs.Start.{Source, image_of, readable, writable}
use Rattle.elf_image_parts.specs.Pages.{page_words}
use Rattle.jvm_definition.specs.Program.{Program}
use Rattle.jvm_definition.specs.Step.{JvmState, Frame, jvm_start, jvm_turn}
use Rattle.class_definition.specs.Linking.{program_of}
use Rattle.emit_layout.specs.Numbers.{choose_number, missing_number}
use Rattle.emit_program_laws.specs.LoadingCodeLaws.Loaded.{paged}
use Rattle.emit_program_laws.specs.TrampolineLaws.Classes.{CodeClass, HasClass, IsClass}
use Rattle.emit_program_laws.proofs.TrampolineLaws.Elements.{all-at}
use Rattle.emit_program_laws.specs.Alike.{TranslatedProgramsComeToMarks}
use Rattle.emit_program_laws.specs.Marks.{AtPiece}
use Rattle.emit_program_laws.specs.Translated as runs
use Rattle.emit_program_laws.specs.Translated.{TranslatedProgram, LoadsWithin}
use Rattle.translate_program.specs.declared.block_info.BlockInfo.{BlockInfo}
use Rattle.translate_program.specs.declared.built.Built.{Built}
use Rattle.translate_program.specs.Files.{allow, need}
use Rattle.nv_translate.specs.Linked.{IsLinked}
use Rattle.nv_translate.specs.Images.{IsImage}
use Rattle.nv_translate.specs.Loading.{LoadsSource}
use Rattle.nv_translate.specs.Standing.{Stands}
use Rattle.nv_translate.specs.Warm.{IsPieceOf, AtBlock, IsWarm, guest_run}
use Rattle.nv_translate.proofs.LinkedTranslations.Lists.{all-got}
use Rattle.nv_translate.proofs.PairedTranslations.{behind_all}
use Rattle.nv_translate.proofs.CountedTranslations.Paired.{plain, are-paired}
use Rattle.nv_translate.proofs.WarmTranslations.Given.{WarmLaws}
use Rattle.nv_translate.proofs.WarmTranslations.Rising.{firsts-rise}
use Rattle.nv_translate.proofs.WarmTranslations.Pieces.{block-piece, piece-block, pieces-apart}
use Rattle.nv_translate.proofs.WarmTranslations.Running.{from-entry, runs-warm}
use Rattle.nv_translate.proofs.WarmTranslations.Lines.{lines-follow}
use Rattle.nv_translate.proofs.WarmTranslations.Leaders.{leads-are}
use Rattle.nv_translate.proofs.WarmTranslations.Coming.{marks_block, is-marked, marks-piece, at-block}

-- a linked translation makes its memory
abbrev pub Loads : (source : Source) (name : Text) (method_bytes : ℕ) (built : Built) → IsLinked source name method_bytes built → ℕ → Type 0
Loads source name method_bytes built l words = LoadsSource None source l.code (program_of l.classes) words (behind_all source l.code) l.texts l.main.runs.now

module _ (laws : WarmLaws) (marks-law : TranslatedProgramsComeToMarks) (source : Source) (name : Text) (method_bytes : ℕ) (built : Built) (image : IsImage source)
    (l : IsLinked source name method_bytes built) (stands : Stands false source l.code (program_of l.classes)) where
  abbrev program : Program
  program = program_of l.classes

  abbrev classes : List CodeClass
  classes = stands.classes

  are : All IsClass classes
  are = all-got IsClass classes (λ n c there. (all-at (HasClass program) classes n c stands.translated.has there).is_class)

  -- ---- where the classes come

  module _ (same : paged (readable source) (writable source) (page_words source) ≡ (image_of source).memory) (words : ℕ)
      (loads : Loads source name method_bytes built l words) (b : BlockInfo) (p : IsPieceOf classes built.layout b) (n : ℕ) (answers : List Answer)
      (one : 1 ≤ n) where
    abbrev t : TranslatedProgram
    t = plain source name method_bytes built image l stands words loads

    abbrev starts : Memory → guest.State
    starts memory =
        guest.start (image_of source).order (image_of source).entry memory (image_of source).code (image_of source).heap_start
        (image_of source).heap_bytes

    runs-same : runs.guest_run t n answers ≡ guest_run source n answers
    runs-same = ap (λ memory. run_of guest_step.turn next_answer n (starts memory) answers) same

    abbrev Comes : (JvmState → Type 0) → Run guest.State (List Answer) → Type 0
    Comes At run = ComesBy (jvm_turn program words) next_answer (allow (image_of source).mapped (n + 1)) At run.questions (jvm_start program) answers

    abbrev Piece : Run guest.State (List Answer) → JvmState → Type 0
    Piece run y = AtPiece program words (image_of source).order classes choose_number (image_of source).code run.last y

    comes-to-piece : (run : Run guest.State (List Answer)) → runs.guest_run t n answers ≡ run → run.outcome ≡ Going → marks_block b run.last ≡ true
        → Comes (Piece run) run
    comes-to-piece run is =
        let extra : ℕ = 131072 * ((image_of source).mapped + 4) in
        let time = loads.in_time in
        let within : LoadsWithin t extra = omega (arith, time) in
        let marks = marks-piece classes are stands.translated.ordered built.layout b p in
        subst (λ (r : Run guest.State (List Answer)). r.outcome ≡ Going → marks_block b r.last ≡ true → Comes (Piece r) r) is
        (λ goes marked. marks-law t extra (marks_block b) (are-paired source name method_bytes built image l stands words loads) within marks n
        answers one goes marked)

    block-comes : (guest_run source n answers).outcome ≡ Going → (guest_run source n answers).last.pending ≡ None
        → (guest_run source n answers).last.pc ≡ b.first
        → Comes (λ y. (others : List Frame) × AtBlock program (image_of source).order (image_of source).code words p others
        (guest_run source n answers).last y) (guest_run source n answers)
    block-comes goes between at =
        let run = guest_run source n answers in
        let comes = comes-to-piece run runs-same goes (is-marked b run.last between at) in
        let from = from-entry laws program (image_of source).order choose_number missing_number classes (image_of source).code stands.translated
        built.layout b p in
        record {
          turns = comes.turns;
          in_time = comes.in_time;
          asks_so = comes.asks_so;
          goes = comes.goes;
          stands =
              at-block classes are stands.translated.ordered built.layout b p from program words (image_of source).order choose_number (image_of source).code run.last
              (run_of (jvm_turn program words) next_answer comes.turns (jvm_start program) answers).last comes.stands at;
        }

  -- ---- all of it

  pub is-warm : paged (readable source) (writable source) (page_words source) ≡ (image_of source).memory
      → ((words : ℕ) → need (image_of source).mapped ≤ words → Loads source name method_bytes built l words) → IsWarm source built.layout program
  is-warm same loads = record {
    classes = classes;
    translated = stands.translated;
    leaders = leads-are source method_bytes l.code classes l.code_is stands.classes_are;
    pieces = block-piece built.layout l.code classes stands.classes_are l.code_is.placed.follow l.spans_are l.blocks_are;
    complete = piece-block built.layout l.code classes stands.classes_are l.code_is.placed.follow l.spans_are l.blocks_are;
    rise = firsts-rise l.code classes stands.classes_are are stands.translated.ordered built.layout.blocks.items l.blocks_are;
    apart = λ i j b d at at_d less same_span.
        let pieces = block-piece built.layout l.code classes stands.classes_are l.code_is.placed.follow l.spans_are l.blocks_are in
        pieces-apart classes built.layout b d (pieces i b at) (pieces j d at_d) same_span
        (firsts-rise l.code classes stands.classes_are are stands.translated.ordered built.layout.blocks.items l.blocks_are i j b d at at_d less);
    runs =
        runs-warm laws program (image_of source).order choose_number missing_number classes (image_of source).code stands.translated built.layout
        (lines-follow program built.layout l.code classes stands.classes_are l.code_has);
    comes = λ b p words n answers room one. block-comes same words (loads words room) b p n answers one;
  }
