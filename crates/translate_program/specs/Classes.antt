-- The classes of code of a program, and their files.
use Rattle.std.specs.Prelude.{◌≡◌, ℕ, ◌+◌, Bool, ◌==◌, if◌then◌else◌, List, [], ◌∷◌, map, flat_map, length, Option, ⊤}
use Rattle.std.specs.List.{range_with_len, AllZip}
use Rattle.nv_values.specs.Names.{Text}
use Rattle.elf_definition.specs.Area.{area}
use Rattle.elf_definition.specs.Fault.{IsRunsOf}
use Rattle.elf_definition.specs.declared.range.Range.{Range}
use Rattle.elf_definition.specs.Start.{Source, image_of}
use Rattle.emit_layout.specs.ClassNames.{file_name, code_class_name}
use Rattle.emit_layout.specs.Numbers.{main_methods, missing_number}
use Rattle.method_splitter.specs.declared.span.Span.{Span}
use Rattle.trampoline.specs.declared.start.Start.{Start}
use Rattle.translate_classes.specs.declared.part.Part.{Part}
use Rattle.translate_classes.specs.Code.{IsCodeClass, address, span_at}
use Rattle.translate_program.specs.declared.named_file.NamedFile.{NamedFile}
use Rattle.translate_program.specs.Files.{named_file_name}
use Rattle.translate_program.specs.declared.span_info.SpanInfo.{SpanInfo}
use Rattle.translate_program.specs.Spans.{AreSpans}
use Rattle.translate_program.specs.Places.{Place, IsPartAt, places_of}

-- a class of code: its number among these, its words with their spans, and the number of its first method in the program
pub record Placed : Type 0 where
  pub number : ℕ
  pub part : Part
  pub spans : List Span
  pub first_method : ℕ

-- it has a method for each span, and behind them `run`, which has this number
abbrev pub run_of : Placed → ℕ
run_of c = c.first_method + length c.spans

-- the number of the method behind those of classes, the first of which has a number
abbrev pub methods_behind : ℕ → List Placed → ℕ
methods_behind first [] = first
methods_behind first (c ∷ classes) = methods_behind (run_of c + 1) classes

-- the classes follow each other by their numbers, and by those of their methods
abbrev pub Follow : ℕ → ℕ → List Placed → Type 0
Follow number first [] = ⊤
Follow number first (c ∷ classes) = (c.number ≡ number) × (c.first_method ≡ first)
    × Follow (number + 1) (run_of c + 1) classes

-- a class has the words at a place, in spans of at most so many bytes, with a meter or without
pub record IsPlaced (metered : Bool) (code : ℕ → Option ℕ) (method_bytes : ℕ) (place : Place)
    (c : Placed) : Type 0 where
  pub metered_is : c.part.metered ≡ metered
  pub part_is : IsPartAt code place c.part
  pub spans_are : AreSpans c.part method_bytes c.spans

-- the classes of the words at places
pub record ArePlaced (metered : Bool) (code : ℕ → Option ℕ) (method_bytes : ℕ)
    (places : List Place) (classes : List Placed) : Type 0 where
  pub follow : Follow 0 main_methods classes
  pub each : AllZip (IsPlaced metered code method_bytes) places classes

-- All classes of code of a program with a meter or without: those of the maximal runs of its code.
pub record AreCodeClasses (metered : Bool) (source : Source) (method_bytes : ℕ)
    (classes : List Placed) : Type 0 where
  pub ranges : List Range
  pub ranges_are : IsRunsOf (area source.file) ranges
  pub placed : ArePlaced metered (image_of source).code method_bytes (places_of ranges) classes

-- ---- their files

pub record IsCodeFile (name : Text) (c : Placed) (file : NamedFile) : Type 0 where
  pub named : named_file_name file ≡ file_name (code_class_name name c.number)
  pub class : IsCodeClass name c.number c.part c.spans c.first_method file.bytes.items

-- ---- where the main class chooses among them

-- the class has the last words of its range
abbrev pub is_last : Part → Bool
is_last part = part.first + part.words == length part.units.now

-- A class begins with its first word, and there its method `run` is called. Behind a range no code stands.
abbrev pub starts_at : Part → ℕ → List Start
starts_at part run =
    record { first = address part 0; method = run }
    ∷ (if is_last part then record { first = address part part.words; method = missing_number } ∷ []
    else [])

abbrev pub starts_of_class : Placed → List Start
starts_of_class c = starts_at c.part (run_of c)

abbrev pub starts_of : List Placed → List Start
starts_of classes = flat_map starts_of_class classes

-- ---- their spans

-- the spans of a class, from number 0 on
abbrev pub span_info : ℕ → Part → List Span → ℕ → SpanInfo
span_info number part spans k =
    record {
      class = number;
      method = k;
      first = address part (span_at spans k).first;
      words = (span_at spans k).words;
    }

abbrev pub span_infos : ℕ → Part → List Span → ℕ → List SpanInfo
span_infos number part spans count = map (span_info number part spans) (range_with_len 0 count)

abbrev pub spans_of_class : Placed → List SpanInfo
spans_of_class c = span_infos c.number c.part c.spans (length c.spans)

abbrev pub spans_of : List Placed → List SpanInfo
spans_of classes = flat_map spans_of_class classes
