-- The main class of a program, and its file.
use Rattle.std.specs.Prelude.{◌≡◌, ℕ, List, flat_map, All, Option}
use Rattle.nv_values.specs.Names.{Text}
use Rattle.elf_definition.specs.Start.{Source, image_of, readable, writable}
use Rattle.elf_definition.specs.Pages.{pages_below}
use Rattle.elf_image_parts.specs.Runs.{IsRun, pages_of, run_pages}
use Rattle.emit_layout.specs.ClassNames.{file_name}
use Rattle.trampoline.specs.declared.start.Start.{Start}
use Rattle.emit_loading.specs.declared.beginning.Beginning.{Beginning}
use Rattle.translate_classes.specs.declared.content.MainClass.{MainClass}
use Rattle.translate_classes.specs.Main.{IsMainClass}
use Rattle.translate_program.specs.declared.named_file.NamedFile.{NamedFile}
use Rattle.translate_program.specs.declared.main_file.Head.{Head}
use Rattle.translate_program.specs.Files.{named_file_name}

-- with what a program begins
abbrev pub beginning_of : Source → Beginning
beginning_of s = record {
  entry = (image_of s).entry;
  heap_start = (image_of s).heap_start;
  heap_bytes = (image_of s).heap_bytes;
  order = (image_of s).order;
}

-- what the main class has of a program itself: with what this begins, and the pages that can be read
pub record IsHeadOf (source : Source) (head : Head) : Type 0 where
  pub beginning_is : head.beginning ≡ beginning_of source
  pub pages_are : flat_map run_pages head.runs.items
      ≡ pages_of (readable source) (writable source) pages_below
  pub runs_are : All IsRun head.runs.items

-- What the main class of a program is made of: the turns of its meter, with what the program
-- begins, the pages that can be read, where its classes of code begin, and the numbers of the
-- methods that are called of these and of the classes of data.
pub record IsContent (meter : Option ℕ) (source : Source) (starts : List Start)
    (runs fills : List ℕ) (main : MainClass) : Type 0 where
  pub meter_is : main.meter ≡ meter
  pub beginning_is : main.beginning ≡ beginning_of source
  pub pages_are : flat_map run_pages main.runs.now
      ≡ pages_of (readable source) (writable source) pages_below
  pub runs_are : All IsRun main.runs.now
  pub starts_are : main.starts.now ≡ starts
  pub code_is : main.code.now ≡ runs
  pub data_is : main.data.now ≡ fills

pub record IsMainFile (meter : Option ℕ) (source : Source) (name : Text) (starts : List Start)
    (runs fills : List ℕ) (file : NamedFile) : Type 0 where
  pub named : named_file_name file ≡ file_name name
  pub main : MainClass
  pub content : IsContent meter source starts runs fills main
  pub class_is : IsMainClass name main file.bytes.items
