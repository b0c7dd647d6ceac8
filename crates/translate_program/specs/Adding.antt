-- The classes of code of a program so far.
use Rattle.std.specs.Prelude.{◌≡◌, ℕ, ◌+◌, ◌*◌, ◌≤◌, Bool, List, [], ◌∷◌, ◌++◌, map, length, Option}
use Rattle.std.specs.List.{AllZip}
use Rattle.nv_values.specs.Names.{Text}
use Rattle.elf_definition.specs.Start.{Source}
use Rattle.emit_layout.specs.Numbers.{main_methods}
use Rattle.translate_classes.specs.declared.part.Part.{Part}
use Rattle.translate_classes.specs.Blocks.{pieces_of_class}
use Rattle.translate_program.specs.declared.named_file.NamedFile.{NamedFile}
use Rattle.translate_program.specs.declared.coding.FileOfCode.{FileOfCode}
use Rattle.translate_program.specs.declared.code_files.Code.{Code}
use Rattle.translate_program.specs.Spans.{AreSpans}
use Rattle.translate_program.specs.Places.{Place}
use Rattle.translate_program.specs.Classes.{Placed, run_of, methods_behind, ArePlaced, AreCodeClasses, IsCodeFile, starts_of_class, starts_of, spans_of_class, spans_of}
use Rattle.translate_program.specs.Blocks.{blocks_of_class, blocks_of, told_of}

-- the class of these words, with numbers that are given
pub record IsClassOf (method_bytes number first_method : ℕ) (part : Part) (c : Placed)
    : Type 0 where
  pub number_is : c.number ≡ number
  pub first_is : c.first_method ≡ first_method
  pub part_is : c.part ≡ part
  pub spans_are : AreSpans c.part method_bytes c.spans

-- its file, its spans with their pieces, and the number of its method `run`
pub record IsFileOfCode (name : Text) (method_bytes number first_method : ℕ) (part : Part)
    (f : FileOfCode) : Type 0 where
  pub class : Placed
  pub class_is : IsClassOf method_bytes number first_method part class
  pub file_is : IsCodeFile name class f.file
  pub spans_are : f.spans.items ≡ spans_of_class class
  pub pieces_are : f.pieces.items ≡ pieces_of_class class.part class.spans
  pub run_is : f.run ≡ run_of class

-- what is told of classes: their files, where they begin, the numbers of their methods `run`, their spans, their blocks where these are told,
-- and how many methods there are
pub record IsTold (name : Text) (classes : List Placed) (code : Code) : Type 0 where
  pub files_are : AllZip (IsCodeFile name) classes code.files.items
  pub starts_are : code.starts.items ≡ starts_of classes
  pub runs_are : code.runs.items ≡ map run_of classes
  pub spans_are : code.spans.items ≡ spans_of classes
  pub blocks_are : code.blocks.items ≡ told_of code.told (blocks_of 0 classes)
  pub methods_are : code.methods ≡ methods_behind main_methods classes

-- the same with one class more
pub record AddsClass (name : Text) (method_bytes : ℕ) (part : Part) (old new : Code) : Type 0 where
  pub class : Placed
  pub class_is : IsClassOf method_bytes (length old.files.items) old.methods part class
  pub file : NamedFile
  pub file_is : IsCodeFile name class file
  pub files_are : new.files.items ≡ old.files.items ++ file ∷ []
  pub starts_are : new.starts.items ≡ old.starts.items ++ starts_of_class class
  pub runs_are : new.runs.items ≡ old.runs.items ++ run_of class ∷ []
  pub spans_are : new.spans.items ≡ old.spans.items ++ spans_of_class class
  pub told_is : new.told ≡ old.told
  pub blocks_are : new.blocks.items ≡ old.blocks.items
      ++ told_of old.told (blocks_of_class (length old.spans.items) class)
  pub methods_are : new.methods ≡ run_of class + 1

-- the classes so far have few spans each, and the program has few methods
pub record HasFew (code : Code) : Type 0 where
  pub spans : length code.spans.items ≤ 879 * length code.files.items
  pub methods : code.methods ≤ main_methods + 880 * length code.files.items

-- the classes of the words at these places, of a program with a meter or without
pub record HasPlaces (metered : Bool) (code : ℕ → Option ℕ) (name : Text) (method_bytes : ℕ)
    (places : List Place) (c : Code) : Type 0 where
  pub classes : List Placed
  pub placed : ArePlaced metered code method_bytes places classes
  pub told : IsTold name classes c

-- all classes of code of a program
pub record IsCodeOf (metered : Bool) (source : Source) (name : Text) (method_bytes : ℕ) (c : Code)
    : Type 0 where
  pub classes : List Placed
  pub classes_are : AreCodeClasses metered source method_bytes classes
  pub told : IsTold name classes c
