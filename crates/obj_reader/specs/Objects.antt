-- The checks of one object, and the sections, symbols and relocations of all objects, each numbered through.
use Rattle.std.specs.Prelude.{ℕ, ◌+◌, not, List, [], ◌∷◌, ◌++◌, length, Option, None, option_map}
use Rattle.std.specs.List.{find}
use Rattle.std.specs.Option.{option_or}
use Rattle.elf_definition.specs.Header.{header_of}
use Rattle.elf_definition.specs.declared.obj_fault.ObjFault.{ObjFault}
use Rattle.obj_reader.specs.declared.relocation.Relocation.{Relocation}
use Rattle.obj_reader.specs.declared.section.Section.{Section}
use Rattle.obj_reader.specs.declared.start.Start.{Start}
use Rattle.obj_reader.specs.declared.symbol.Symbol.{Symbol}
use Rattle.obj_reader.specs.Fault.{object_fails, object_fails_at, first_object_fault}
use Rattle.obj_reader.specs.Sections.{is_mips_object, is_table_sound, sections_of, is_section_outside, is_misaligned, section_number}
use Rattle.obj_reader.specs.Symbols.{symbols_of, symbol_fault}
use Rattle.obj_reader.specs.Relocations.{relocations_of, relocations_fault, has_other_type, relocation_offset}

-- NotObject and SectionTable
unfoldable pub header_fault : Start → List ℕ → Option ObjFault
header_fault start file =
    first_object_fault
    (object_fails start.object 1 0 (not (is_mips_object file))
    ∷ object_fails start.object 2 0 (not (is_table_sound file (header_of file)))
    ∷ [])

-- the first section that runs past the end of a file of this length, and the first of a wrong
-- alignment
abbrev pub first_outside : ℕ → List Section → Option ℕ
first_outside len sections = option_map section_number (find (is_section_outside len sections) sections)

abbrev pub first_misaligned : List Section → Option ℕ
first_misaligned sections = option_map section_number (find is_misaligned sections)

-- SectionOutside and Alignment
unfoldable pub object_section_fault : Start → List ℕ → Option ObjFault
object_section_fault start file =
    let sections = sections_of start file in
    first_object_fault
    (object_fails_at start.object 3 (first_outside (length file) sections)
    ∷ object_fails_at start.object 4 (first_misaligned sections)
    ∷ [])

-- the first relocation of a type that is not known
abbrev pub first_other_type : List Relocation → Option ℕ
first_other_type relocations = option_map relocation_offset (find has_other_type relocations)

-- Relocations and RelocationType
unfoldable pub relocation_fault : Start → List ℕ → Option ObjFault
relocation_fault start file =
    first_object_fault
    (object_fails_at start.object 7 (relocations_fault start file)
    ∷ object_fails_at start.object 8 (first_other_type (relocations_of start file))
    ∷ [])

-- the first check that an object fails by itself
unfoldable pub object_fault : Start → List ℕ → Option ObjFault
object_fault start file =
    first_object_fault
    (header_fault start file ∷ object_section_fault start file ∷ symbol_fault start file
    ∷ relocation_fault start file ∷ [])

-- where the numbers of the next object begin
unfoldable pub next_start : Start → List ℕ → Start
next_start start file = record {
  object = start.object + 1;
  section = start.section + length (sections_of start file);
  symbol = start.symbol + length (symbols_of start file);
}

-- the first object begins at 0
abbrev pub first_start : Start
first_start = record { object = 0; section = 0; symbol = 0 }

-- of the objects from a start on: the first that fails a check by itself, and their sections,
-- symbols and relocations
abbrev pub objects_fault_from : Start → List (List ℕ) → Option ObjFault
objects_fault_from start [] = None
objects_fault_from start (file ∷ files) =
    option_or (object_fault start file) (objects_fault_from (next_start start file) files)

abbrev pub sections_from : Start → List (List ℕ) → List Section
sections_from start [] = []
sections_from start (file ∷ files) =
    sections_of start file ++ sections_from (next_start start file) files

abbrev pub symbols_from : Start → List (List ℕ) → List Symbol
symbols_from start [] = []
symbols_from start (file ∷ files) =
    symbols_of start file ++ symbols_from (next_start start file) files

abbrev pub relocations_from : Start → List (List ℕ) → List Relocation
relocations_from start [] = []
relocations_from start (file ∷ files) =
    relocations_of start file ++ relocations_from (next_start start file) files
