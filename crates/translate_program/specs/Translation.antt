-- What a translation of a program is.
use Rattle.std.specs.Prelude.{◌≡◌, ℕ, ◌≤◌, List, ◌∷◌, ◌++◌, map, length, Option, None, is_some}
use Rattle.std.specs.List.{AllZip}
use Rattle.nv_values.specs.Names.{Text}
use Rattle.elf_definition.specs.Start.{Source, image_of}
use Rattle.emit_layout.specs.Numbers.{main_methods}
use Rattle.translate_program.specs.declared.named_file.NamedFile.{NamedFile}
use Rattle.translate_program.specs.Classes.{Placed, AreCodeClasses, IsCodeFile, methods_behind, run_of, starts_of, spans_of}
use Rattle.translate_program.specs.Blocks.{blocks_of}
use Rattle.translate_program.specs.DataFiles.{AreDataFiles, class_count, filled_pages, fills_of}
use Rattle.translate_program.specs.declared.built.Built.{Built}
use Rattle.translate_program.specs.Files.{need}
use Rattle.translate_program.specs.MainFile.{IsMainFile}

-- how many methods the main class and classes of code have
abbrev pub code_methods : List Placed → ℕ
code_methods code = methods_behind main_methods code

-- the numbers of the methods `fill` of a program's classes of data, behind these classes of code
abbrev pub fills_behind : Source → List Placed → List ℕ
fills_behind source code = fills_of (code_methods code) (class_count (filled_pages source))

-- A translation with a meter of so many turns, or with none.
-- The files: the main class, then the classes of code, of which there is one at least, then those of data. The layout has the spans of the classes
-- of code and their blocks, and its need is that of the mapped pages.
pub record IsTranslationBy (meter : Option ℕ) (source : Source) (name : Text) (method_bytes : ℕ)
    (built : Built) : Type 0 where
  pub code : List Placed
  pub some : 1 ≤ length code
  pub code_is : AreCodeClasses (is_some meter) source method_bytes code
  pub main_file : NamedFile
  pub code_files : List NamedFile
  pub data_files : List NamedFile
  pub files_are : built.files.items ≡ main_file ∷ (code_files ++ data_files)
  pub main_is : IsMainFile meter source name (starts_of code) (map run_of code)
      (fills_behind source code) main_file
  pub code_are : AllZip (IsCodeFile name) code code_files
  pub data_are : AreDataFiles name (length code) (code_methods code) (filled_pages source)
      (class_count (filled_pages source)) data_files
  pub spans_are : built.layout.spans.items ≡ spans_of code
  pub blocks_are : built.layout.blocks.items ≡ blocks_of 0 code
  pub need_is : built.layout.need ≡ need (image_of source).mapped

-- the files of such a translation, which need not be at hand itself
pub record AreFilesOf (meter : Option ℕ) (source : Source) (name : Text) (method_bytes : ℕ)
    (files : List NamedFile) : Type 0 where
  pub built : Built
  pub is : IsTranslationBy meter source name method_bytes built
  pub files_are : built.files.items ≡ files

-- a translation without a meter
abbrev pub IsTranslation : Source → Text → ℕ → Built → Type 0
IsTranslation source name method_bytes built = IsTranslationBy None source name method_bytes built
