use Rattle.std.proofs.Common.{◌≡◌, ℕ, ◌+◌, ◌*◌, ◌^◌, ◌<◌, ◌≤◌, Bool, true, false, List, length, refl, ap, sym, subst, ◌∙◌, arith}
use Rattle.std.specs.Prelude.{is_some}
use Rattle.std.specs.List.{AllZip}
use Rattle.elf_definition.specs.Start.{image_of, readable, writable}
use Rattle.elf_image_parts.specs.declared.page_run.PageRun.{PageRun}
use Rattle.elf_image_parts.specs.Runs.{pages_of}
use Rattle.elf_image_parts.specs.Pages.{page_words, filled_below}
use Rattle.jvm_definition.specs.Program.{Program}
use Rattle.class_definition.specs.Linking.{program_of}
use Rattle.emit_layout.specs.FieldNumbers.{page_count}
use Rattle.emit_layout.specs.Numbers.{pages_number}
use Rattle.emit_program_laws.specs.LoadingCodeLaws.Loaded.{Filler, MakesMemory, TellsRuns, run_shares, pages_told, slots_of, memory_turns}
use Rattle.emit_program_laws.specs.LoadingCodeLaws.Made.{IsProgram}
use Rattle.translate_classes.specs.Content.{text_runs}
use Rattle.translate_program.specs.Files.{need}
use Rattle.translate_program.specs.DataFiles.{fill_of, first_method}
use Rattle.translate_program.specs.MainFile.{beginning_of}
use Rattle.translate_program.specs.Translation.{code_methods}
use Rattle.nv_translate.proofs.LinkedTranslations.Metered.{fields-least}
use Rattle.nv_translate.proofs.TranslatedLoading.Pages.{numbers_of_pages, pages_of_slots, pages-counted}
use Rattle.nv_translate.proofs.TranslatedLoading.Fillers.{fillers, all-apart, all-fill, all-have-slots, all-numbers, all-slots}
use Rattle.nv_translate.proofs.TranslatedLoading.Beginning.{pages-method, pages-lie, main-begins}
use Rattle.nv_translate.proofs.translated_loading.translations_load.Goals as goal

text-some : 1 ≤ text_runs
text-some = omega arith

text-few : text_runs < 2 ^ 29
text-few = omega arith

enough : (mapped long words : ℕ) → need mapped ≤ words → long ≡ mapped → 2 * 524290 + 1026 * long ≤ words
enough mapped long words room same = omega (arith, room, same)

-- a test that a method fails which takes part
fails : (test : ℕ → Bool) (m : ℕ) (b : Bool) → test m ≡ b → (test m ≡ true → ⊥) → test m ≡ false
fails test m true is none = absurd (none is)
fails test m false is none = is

pub returns : goal.returns
returns c meter source name method_bytes built image l words m room apart =
    let program : Program = program_of l.classes in
    let runs : List PageRun = l.main.runs.now in
    let shares : List (List PageRun) = run_shares text_runs runs in
    let made : List Filler = fillers program source (length l.code) (code_methods l.code) l.data_has in
    let all_runs = c.shares_tell_runs.ensures.all text_runs runs text-some in
    let pages = c.images_are_pages.ensures source image.whole in
    let told : pages_told shares ≡ pages_of (readable source) (writable source) page_count = all_runs.told ∙ l.content.pages_are in
    let long : length (pages_told shares) ≡ (image_of source).mapped =
    ap length told ∙ pages-counted (readable source) (writable source) page_count ∙ sym image.mapped in
    let same : pages_of_slots (slots_of made) ≡ numbers_of_pages (filled_below source page_count) =
    all-slots program source (length l.code) (code_methods l.code) l.data_has c.shares_are_all.ensures in
    let tell : AllZip (TellsRuns program 0) l.texts shares =
    c.shares_tell_runs.ensures.tell program text_runs runs l.texts text-few l.content.runs_are l.texts_are in
    let few : length (slots_of made) ≤ length (pages_told shares) =
    subst (λ n. length (slots_of made) ≤ n) (sym (ap length told)) (pages.few (slots_of made) same) in
    let begins : IsProgram program 20 m 21 22 meter (beginning_of source) l.texts made =
    main-begins program l.main l.texts l.main_by l.main_planned m meter (beginning_of source) made l.content.meter_is l.content.beginning_is
    (l.content.data_is ∙ sym (all-numbers program source (length l.code) (code_methods l.code) l.data_has))
    l.first_is apart.first (λ f below. let least = fields-least (is_some meter) in l.fields_are f (omega (arith, below, least))) in
    let makes : MakesMemory program words m pages_number l.texts shares made (readable source) (writable source) (page_words source) = record {
      apart = apart.pages;
      pages_is = pages-method program l.main l.texts l.main_by l.main_planned;
      pages_lies = pages-lie program l.main l.texts l.main_by l.main_planned;
      tell = tell;
      told = told;
      fill = all-fill program source (length l.code) (code_methods l.code) l.data_has m apart.words apart.fills;
      are_pages = pages.are_paged (slots_of made) same;
      room = enough (image_of source).mapped (length (pages_told shares)) words room long;
    } in
    record {
      fillers = made;
      begins = begins;
      makes = makes;
      others = λ test none. record {
        pages_is_none = fails test pages_number (test pages_number) refl (λ is. (none pages_number is).pages refl);
        fillers_are_none = all-apart program source (length l.code) (code_methods l.code) l.data_has test
            (λ k below. fails test (first_method (code_methods l.code) k) (test (first_method (code_methods l.code) k)) refl
            (λ is. (none (first_method (code_methods l.code) k) is).words k below refl))
            (λ k below. fails test (fill_of (code_methods l.code) k) (test (fill_of (code_methods l.code) k)) refl
            (λ is. (none (fill_of (code_methods l.code) k) is).fills k below refl));
      };
      in_time = subst (λ n. memory_turns shares made ≤ 6 + 42057 * n) long
          (c.loading_takes.ensures program l.texts shares made tell all_runs.some
          (all-have-slots program source (length l.code) (code_methods l.code) l.data_has) few);
    }
