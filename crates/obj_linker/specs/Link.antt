-- What linking objects answers: a program, or the first check that the objects fail.
use Rattle.std.specs.Prelude.{◌≡◌, ℕ, ◌-◌, not, ◌||◌, if◌then◌else◌, List, [], ◌∷◌, map, Option, Some, None, is_none}
use Rattle.std.specs.List.{find, list_any}
use Rattle.std.specs.Option.{option_map_or}
use Rattle.obj_linker.specs.declared.meaning.Meaning.{Meaning}
use Rattle.obj_linker.specs.declared.meaning.Meaning.TheVariants.{InSection, Number, Nothing}
use Rattle.elf_definition.specs.declared.obj_fault.ObjFault.{ObjFault}
use Rattle.obj_reader.specs.declared.relocation.Relocation.{Relocation}
use Rattle.obj_reader.specs.declared.section.Section.{Section}
use Rattle.obj_linker.specs.declared.site.Site.{Site}
use Rattle.obj_reader.specs.declared.symbol.Symbol.{Symbol}
use Rattle.obj_reader.specs.Fault.{object_fails, first_object_fault}
use Rattle.obj_linker.specs.Image.{linked_bytes}
use Rattle.obj_linker.specs.Layout.{is_too_large, places_of, code_end, text_end, zeros_end, text_start}
use Rattle.obj_reader.specs.Sections.{is_code_object_section}
use Rattle.obj_linker.specs.Names.{definition_of, first_repeated, meaning_of, own_meaning}
use Rattle.obj_reader.specs.Objects.{objects_fault_from, first_start, relocations_from, sections_from, symbols_from}
use Rattle.obj_linker.specs.Pairs.{first_alone, lows}
use Rattle.obj_linker.specs.Program.{IsLinkedFile}
use Rattle.obj_linker.specs.Sites.{first_far, is_section_placed, is_undefined, relocated, site_fault_of, sites_of, symbol_value}
use Rattle.obj_linker.specs.Whole.{relocation_fault_of, symbol_fault_of}

-- ---- of objects with these sections, symbols and relocations, each numbered through
-- what each symbol means
abbrev pub meanings_of : List (List ℕ) → List Symbol → List Meaning
meanings_of files symbols = map (meaning_of files symbols) symbols

-- the words that the relocations change
unfoldable pub all_sites : List (List ℕ) → List Section → List Symbol → List Relocation → List Site
all_sites files sections symbols relocations =
    sites_of symbols (meanings_of files symbols) (places_of sections)
    (text_end sections - text_start) relocations (lows relocations)

-- the text, and behind it the data, with the words of the relocations
unfoldable pub linked_image : List (List ℕ) → List Section → List Symbol → List Relocation → List ℕ
linked_image files sections symbols relocations =
    relocated (linked_bytes files sections) (all_sites files sections symbols relocations)

-- the entry: what its name means by a definition is an address in a section that gets a place
abbrev pub entry_address : List Section → List ℕ → Meaning → Option ℕ
entry_address sections places (InSection section offset) =
    if is_section_placed sections section then Some (symbol_value places (InSection section offset))
    else None
entry_address sections places (Number value) = None
entry_address sections places Nothing = None

abbrev pub defined_meaning : Option Symbol → Meaning
defined_meaning definition = option_map_or own_meaning definition Nothing

unfoldable pub entry_of : List (List ℕ) → List Section → List Symbol → List ℕ → Option ℕ
entry_of files sections symbols entry =
    entry_address sections (places_of sections) (defined_meaning (definition_of files symbols entry))

-- HiAlone, Duplicate and Undefined
unfoldable pub names_fault :
    List (List ℕ) → List Section → List Symbol → List Relocation → Option ObjFault
names_fault files sections symbols relocations =
    first_object_fault
    (relocation_fault_of 9 (first_alone relocations)
    ∷ symbol_fault_of 10 (first_repeated files [] symbols)
    ∷ relocation_fault_of 11 (find (is_undefined sections (meanings_of files symbols)) relocations)
    ∷ [])

-- TooLarge, Range and NoEntry
unfoldable pub program_fault :
    List (List ℕ) → List Section → List Symbol → List Relocation → List ℕ → Option ObjFault
program_fault files sections symbols relocations entry =
    let sites = all_sites files sections symbols relocations in
    let address = entry_of files sections symbols entry in
    first_object_fault
    (object_fails 0 12 0 (is_too_large sections)
    ∷ site_fault_of 13 (first_far (linked_bytes files sections) sites)
    ∷ object_fails 0 14 0 (not (list_any is_code_object_section sections) || is_none address)
    ∷ [])

-- ---- of objects and the name of an entry
-- the first check that the objects fail: each by itself, or together
unfoldable pub objects_fault : List (List ℕ) → List ℕ → Option ObjFault
objects_fault files entry =
    let sections = sections_from first_start files in
    let symbols = symbols_from first_start files in
    let relocations = relocations_from first_start files in
    first_object_fault
    (objects_fault_from first_start files
    ∷ names_fault files sections symbols relocations
    ∷ program_fault files sections symbols relocations entry
    ∷ [])

-- the file of a program with these sections, symbols and relocations
abbrev pub IsFileWith :
    List (List ℕ) → List Section → List Symbol → List Relocation → List ℕ → List ℕ → Type 0
IsFileWith files sections symbols relocations entry file =
    let image = linked_image files sections symbols relocations in
    (at : ℕ) × (entry_of files sections symbols entry ≡ Some at)
    × IsLinkedFile at image (code_end sections) (text_end sections) (zeros_end sections) file

-- the file of the linked program
abbrev pub IsLinked : List (List ℕ) → List ℕ → List ℕ → Type 0
IsLinked files entry file =
    IsFileWith files (sections_from first_start files) (symbols_from first_start files)
    (relocations_from first_start files) entry file
