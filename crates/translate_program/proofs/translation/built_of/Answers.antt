use Rattle.std.proofs.Common.{◌<◌, ◌^◌, ◌++◌, length, map, refl, sym, ap, ◌∙◌, arith, subst, All}
use Rattle.std.proofs.lemmas.List.{length-map}
use Rattle.std.proofs.lemmas.List.FromFn.{length-map-range_with_len}
use Rattle.std.proofs.lemmas.Slice.Zip.{AllZip-long}
use Rattle.elf_definition.specs.Start.{image_of, readable, writable}
use Rattle.elf_definition.specs.Pages.{pages_below}
use Rattle.emit_layout.specs.Numbers.{main_methods}
use Rattle.trampoline.specs.declared.start.Start.{Start}
use Rattle.translate_classes.specs.Content.{RiseFrom, behind}
use Rattle.translate_program.specs.declared.built.Built.{Built}
use Rattle.translate_program.specs.Adding.{IsCodeOf}
use Rattle.translate_program.specs.Blocks.{blocks_of, told_of}
use Rattle.translate_program.specs.Classes.{AreCodeClasses, IsCodeFile, run_of}
use Rattle.translate_program.specs.DataFiles.{class_count, filled_pages, fill_of}
use Rattle.translate_program.specs.Places.{places_of}
use Rattle.translate_program.specs.Translation.{code_methods}
use Rattle.translate_program.proofs.Counts.BlockLemmas.{blocks-few}
use Rattle.translate_program.proofs.Counts.PageLemmas.{data-few, runs-few}
use Rattle.translate_program.proofs.Counts.StartLemmas.{starts-some, starts-few, starts-known}
use Rattle.translate_program.proofs.ProgramTranslation.RiseLemmas.{rise-calls}
use Rattle.translate_program.proofs.Translations.{listing, translation-of}
use Rattle.translate_program.proofs.translation.built_of.Goals as goal

pub code_of-requires : goal.code_of-requires
code_of-requires c = c.requires.ranges_are

pub main_file-requires : goal.main_file-requires
main_file-requires c =
    let source = c.args.taken.ranges.image.value in
    let name = c.args.name.now in
    let head = c.args.taken.head in
    let coded = c.in_ok-code.ensures in
    let told = coded.code.told in
    let classes = coded.code.classes in
    let are = subst (λ metered. AreCodeClasses metered source c.args.method_bytes classes) c.is_some.ensures coded.code.classes_are in
    let stored = c.requires.data_is classes are in
    let follow = coded.code.classes_are.placed.follow in
    let count = class_count (filled_pages source) in
    let long = AllZip-long (IsCodeFile name) classes c.in_ok-code.code.files.items told.files_are in
    let rise = rise-calls 0 classes count follow in
    record {
      runs = c.requires.head_is.runs_are;
      few_runs = runs-few (readable source) (writable source) pages_below head.runs.items c.requires.head_is.runs_are c.requires.head_is.pages_are;
      some = omega (arith, ap length told.starts_are, starts-some classes (omega (arith, long, coded.some)));
      few = omega (arith, ap length told.starts_are, starts-few classes, long, coded.few);
      few_code = omega (arith, ap length told.runs_are, length-map classes run_of, long, coded.few);
      few_data =
          omega (arith, ap length stored.fills_are, length-map-range_with_len (fill_of (code_methods classes)) 0 count, data-few source);
      known =
          subst (λ runs. All (λ (s : Start). s.method < behind main_methods runs) c.in_ok-code.code.starts.items) (sym told.runs_are)
          (subst (λ starts. All (λ (s : Start). s.method < behind main_methods (map run_of classes)) starts) (sym told.starts_are)
          (starts-known 0 main_methods classes (omega arith) follow));
      rise =
          subst (λ runs. RiseFrom main_methods (runs ++ c.args.taken.stored.fills.items)) (sym told.runs_are)
          (subst (λ fills. RiseFrom main_methods (map run_of classes ++ fills)) (sym stored.fills_are) rise);
    }

pub returns-clause-told : goal.returns-clause-told
returns-clause-told c is =
    let taken = c.args.taken in
    let source = taken.ranges.image.value in
    let name = c.args.name.now in
    let method_bytes = c.args.method_bytes in
    let code = c.in_ok-code.code in
    let coded = subst (λ metered. IsCodeOf metered source name method_bytes code) c.is_some.ensures c.in_ok-code.ensures.code in
    let built : Built =
    record { files = c.in_ok-files.files; layout = record { spans = code.spans; blocks = code.blocks; need = taken.need } } in
    translation-of c.args.meter source name method_bytes code taken.stored c.in_ok-main.main built coded c.in_ok-code.ensures.some
    (c.requires.data_is coded.classes coded.classes_are) (c.in_ok-main.ensures source c.requires.head_is) c.in_ok-files.ensures refl
    (coded.told.blocks_are ∙ ap (λ told. told_of told (blocks_of 0 coded.classes)) (c.in_ok-code.ensures.told ∙ is)) c.requires.need_is

pub returns-clause-files : goal.returns-clause-files
returns-clause-files c =
    let taken = c.args.taken in
    let source = taken.ranges.image.value in
    let name = c.args.name.now in
    let method_bytes = c.args.method_bytes in
    let code = c.in_ok-code.code in
    let coded = subst (λ metered. IsCodeOf metered source name method_bytes code) c.is_some.ensures c.in_ok-code.ensures.code in
    let classes = coded.classes in
    let long = AllZip-long (IsCodeFile name) classes code.files.items coded.told.files_are in
    let few : length (blocks_of 0 classes) < 2 ^ 63 =
    omega (
      arith,
      blocks-few _ (image_of source).code method_bytes 0 (places_of coded.classes_are.ranges) classes coded.classes_are.placed.each,
      long,
      c.in_ok-code.ensures.few,
    ) in
    let built : Built = record {
      files = c.in_ok-files.files;
      layout = record { spans = code.spans; blocks = listing code.blocks (blocks_of 0 classes) few; need = taken.need };
    } in
    record {
      built = built;
      is =
          translation-of c.args.meter source name method_bytes code taken.stored c.in_ok-main.main built coded c.in_ok-code.ensures.some
          (c.requires.data_is classes coded.classes_are) (c.in_ok-main.ensures source c.requires.head_is) c.in_ok-files.ensures refl refl
          c.requires.need_is;
      files_are = refl;
    }
