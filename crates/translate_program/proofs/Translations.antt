-- A translation from its classes of code, its classes of data and its main class.
use Rattle.std.proofs.Common.{◌≡◌, ℕ, ◌≤◌, ◌<◌, ◌^◌, List, ◌∷◌, ◌++◌, length, map, Option, refl, ◌∙◌, subst, arith}
use Rattle.std.specs.Prelude.{Vec, is_some}
use Rattle.std.specs.declared.alloc.Global.{Global}
use Rattle.std.proofs.lemmas.Slice.Zip.{AllZip-long}
use Rattle.nv_values.specs.Names.{Text}
use Rattle.elf_definition.specs.Start.{Source, image_of}
use Rattle.translate_program.specs.declared.block_info.BlockInfo.{BlockInfo}
use Rattle.translate_program.specs.declared.built.Built.{Built}
use Rattle.translate_program.specs.declared.code_files.Code.{Code}
use Rattle.translate_program.specs.declared.data_files.Data.{Data}
use Rattle.translate_program.specs.declared.named_file.NamedFile.{NamedFile}
use Rattle.translate_program.specs.Adding.{IsCodeOf}
use Rattle.translate_program.specs.Blocks.{blocks_of}
use Rattle.translate_program.specs.Files.{need}
use Rattle.translate_program.specs.Classes.{IsCodeFile, run_of}
use Rattle.translate_program.specs.DataFiles.{IsDataOf}
use Rattle.translate_program.specs.MainFile.{IsMainFile}
use Rattle.translate_program.specs.Translation.{code_methods, fills_behind, IsTranslationBy}

-- a vector as another list
abbrev pub listing : Vec BlockInfo Global → (items : List BlockInfo) → length items < 2 ^ 63 → Vec BlockInfo Global
listing v items few = record v { items = items; len = length items; cap = length items; ok = (refl, omega arith); small = few }

-- what is made with these classes is a translation, if it lists their blocks
pub translation-of : (meter : Option ℕ) (source : Source) (name : Text) (method_bytes : ℕ) (code : Code) (stored : Data) (main : NamedFile) (built : Built)
    (coded : IsCodeOf (is_some meter) source name method_bytes code) → 1 ≤ length code.files.items
    → IsDataOf source name (length coded.classes) (code_methods coded.classes) stored
    → IsMainFile meter source name code.starts.items code.runs.items stored.fills.items main
    → built.files.items ≡ main ∷ (code.files.items ++ stored.files.items) → built.layout.spans.items ≡ code.spans.items
    → built.layout.blocks.items ≡ blocks_of 0 coded.classes → built.layout.need ≡ need (image_of source).mapped
    → IsTranslationBy meter source name method_bytes built
translation-of meter source name method_bytes code stored main built coded some stored_is main_is files spans blocks needs =
    let classes = coded.classes in
    let told = coded.told in
    let fills = fills_behind source classes in
    record {
      code = classes;
      some = omega (arith, AllZip-long (IsCodeFile name) classes code.files.items told.files_are, some);
      code_is = coded.classes_are;
      main_file = main;
      code_files = code.files.items;
      data_files = stored.files.items;
      files_are = files;
      main_is =
          subst (λ starts. IsMainFile meter source name starts (map run_of classes) fills main) told.starts_are
          (subst (λ runs. IsMainFile meter source name code.starts.items runs fills main) told.runs_are
          (subst (λ l. IsMainFile meter source name code.starts.items code.runs.items l main) stored_is.fills_are main_is));
      code_are = told.files_are;
      data_are = stored_is.files_are;
      spans_are = spans ∙ told.spans_are;
      blocks_are = blocks;
      need_is = needs;
    }
