-- The methods of a translation as those of a program that translates a guest's code.
use Rattle.std.specs.Prelude.{◌≡◌, ℕ, Bool, List}
use Rattle.std.specs.List.{AllZip}
use Rattle.delay_slots.specs.Units.{units_of}
use Rattle.elf_definition.specs.Start.{Source, image_of}
use Rattle.jvm_definition.specs.Program.{Program}
use Rattle.emit_layout.specs.Numbers.{choose_number, missing_number}
use Rattle.emit_spans.specs.Pieces.{flagged}
use Rattle.emit_program_laws.specs.TrampolineLaws.Classes.{CodeClass}
use Rattle.emit_program_laws.specs.TrampolineLaws.Programs.{IsTranslated}
use Rattle.translate_program.specs.Classes.{Placed}

-- a class of a translation, whose range has these words
abbrev pub class_of : Placed → List ℕ → CodeClass
class_of p words = record {
  metered = p.part.metered;
  start = p.part.start;
  words = words;
  leads = flagged p.part.leads.now;
  first = p.part.first;
  count = p.part.words;
  spans = p.spans;
  first_method = p.first_method;
}

-- It is that class: its range has words of which these are the units.
pub record IsClassOf (p : Placed) (c : CodeClass) : Type 0 where
  pub is : c ≡ class_of p c.words
  -- its units are those of the range's words
  pub units_are : p.part.units.now ≡ units_of c.words

-- The classes of code of a translation are the classes of a program, which is a translation of the source's code, with a meter or without.
pub record Stands (metered : Bool) (source : Source) (placed : List Placed) (program : Program)
    : Type 0 where
  -- the classes as the laws of translated programs have them, one for each class of code
  pub classes : List CodeClass
  pub classes_are : AllZip IsClassOf placed classes
  -- the program has their methods, the helpers, and those that choose
  pub translated : IsTranslated metered program (image_of source).order choose_number missing_number
      classes (image_of source).code
