-- The classes of data of a program, and their files.
use Rattle.std.specs.Prelude.{◌≡◌, ℕ, ◌+◌, ◌*◌, List, [], ◌∷◌, ◌++◌, map, length}
use Rattle.std.specs.List.{range_with_len, AllZip}
use Rattle.nv_values.specs.Names.{Text}
use Rattle.elf_definition.specs.Start.{Source}
use Rattle.elf_definition.specs.Pages.{pages_below}
use Rattle.elf_image_parts.specs.Pages.{Page, filled_below}
use Rattle.emit_layout.specs.ClassNames.{file_name, data_class_name}
use Rattle.method_splitter.specs.Shares.{share_at, share_count, shared}
use Rattle.translate_classes.specs.Data.{IsDataClass}
use Rattle.translate_program.specs.declared.named_file.NamedFile.{NamedFile}
use Rattle.translate_program.specs.Files.{named_file_name}
use Rattle.translate_program.specs.declared.data_files.Data.{Data}

-- ---- which pages each class has

abbrev pub filled_pages : Source → List Page
filled_pages s = filled_below s pages_below

-- how many pages one class has at most
abbrev pub class_pages : ℕ
class_pages = 1024

-- the pages of the class of a number: each class but the last has as many as there can be
abbrev pub pages_of_class : List Page → ℕ → List Page
pages_of_class pages k = shared pages (share_at class_pages (length pages) k)

abbrev pub class_count : List Page → ℕ
class_count pages = share_count class_pages (length pages)

-- ---- their numbers, behind those of the main class and of so many classes of code, and behind so many methods: each class has two

abbrev pub class_number : ℕ → ℕ → ℕ
class_number code_classes k = code_classes + 1 + k

abbrev pub first_method : ℕ → ℕ → ℕ
first_method methods k = methods + 2 * k

-- the number of the method `fill`
abbrev pub fill_of : ℕ → ℕ → ℕ
fill_of methods k = first_method methods k + 1

abbrev pub fills_of : ℕ → ℕ → List ℕ
fills_of methods count = map (fill_of methods) (range_with_len 0 count)

-- ---- their files

-- the class of a number, whose number in the program is given, and that of its first method
pub record IsFileOfPages (name : Text) (k class first : ℕ) (pages : List Page) (file : NamedFile)
    : Type 0 where
  pub named : named_file_name file ≡ file_name (data_class_name name k)
  pub class_is : IsDataClass name k class first pages file.bytes.items

abbrev pub IsDataFile : Text → ℕ → ℕ → List Page → ℕ → NamedFile → Type 0
IsDataFile name code_classes methods pages k file =
    IsFileOfPages name k (class_number code_classes k) (first_method methods k)
    (pages_of_class pages k) file

-- the files of the first classes of these pages
abbrev pub AreDataFiles : Text → ℕ → ℕ → List Page → ℕ → List NamedFile → Type 0
AreDataFiles name code_classes methods pages count files =
    AllZip (IsDataFile name code_classes methods pages) (range_with_len 0 count) files

-- ---- the classes so far

-- the same with the class of a number, of these pages
pub record AddsFile (name : Text) (code_classes methods k : ℕ) (pages : List Page) (old new : Data)
    : Type 0 where
  pub file : NamedFile
  pub file_is : IsFileOfPages name k (class_number code_classes k) (first_method methods k)
      pages file
  pub files_are : new.files.items ≡ old.files.items ++ file ∷ []
  pub fills_are : new.fills.items ≡ old.fills.items ++ fill_of methods k ∷ []

-- the files of the first classes, and the numbers of their methods `fill`
pub record HasFiles (name : Text) (code_classes methods : ℕ) (pages : List Page) (count : ℕ)
    (d : Data) : Type 0 where
  pub files_are : AreDataFiles name code_classes methods pages count d.files.items
  pub fills_are : d.fills.items ≡ fills_of methods count

-- those of all classes of data of a program
abbrev pub IsDataOf : Source → Text → ℕ → ℕ → Data → Type 0
IsDataOf source name code_classes methods d =
    HasFiles name code_classes methods (filled_pages source) (class_count (filled_pages source)) d
