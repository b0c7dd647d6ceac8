-- System V ABI, "Symbol Table": the symbols of an object, and the checks of the table.
use Rattle.std.specs.Prelude.{ℕ, ◌+◌, ◌*◌, ◌/◌, ◌%◌, Bool, not, ◌&&◌, ◌||◌, ◌==◌, nat_lt, nat_le, List, [], ◌∷◌, length, map, drop, Option, None, is_none, option_map, slice_index, slice_range}
use Rattle.std.specs.List.{find, list_any, range_with_len}
use Rattle.std.specs.Option.{option_map_or}
use Rattle.elf_definition.specs.Header.{half, word}
use Rattle.elf_definition.specs.declared.obj_fault.ObjFault.{ObjFault}
use Rattle.obj_reader.specs.declared.section.Section.{Section}
use Rattle.obj_reader.specs.declared.start.Start.{Start}
use Rattle.obj_reader.specs.declared.symbol.Symbol.{Symbol}
use Rattle.obj_reader.specs.Fault.{object_fails, object_fails_at, first_object_fault}
use Rattle.obj_reader.specs.Sections.{sections_of, symbol_table, string_table, strings_of_table, is_symbol_table, section_number}

-- where the string table begins in the file
abbrev pub strings_place : List Section → ℕ
strings_place sections = option_map_or (λ (s : Section). s.sh_offset) (string_table sections) 0

-- the i-th entry of a table, of 16 bytes: st_name, st_value, st_size, st_info, st_other, st_shndx
unfoldable pub symbol : Start → List ℕ → ℕ → ℕ → ℕ → Symbol
symbol start file strings table i = let at = table + 16 * i in record {
  object = start.object;
  number = i;
  strings = strings;
  st_name = word file at;
  st_value = word file (at + 4);
  st_info = slice_index file (at + 12);
  st_shndx = half file (at + 14);
  section = start.section + half file (at + 14);
}

abbrev pub symbols_in : Start → List ℕ → ℕ → Section → List Symbol
symbols_in start file strings table =
    map (symbol start file strings table.sh_offset) (range_with_len 0 (table.sh_size / 16))

-- the entries of the symbol table, if there is one
unfoldable pub symbols_of : Start → List ℕ → List Symbol
symbols_of start file =
    let sections = sections_of start file in
    option_map_or (symbols_in start file (strings_place sections)) (symbol_table sections) []

-- the binding, the upper half of st_info: STB_LOCAL, STB_GLOBAL or STB_WEAK
abbrev pub binding : Symbol → ℕ
binding s = s.st_info / 16

abbrev pub is_local : Symbol → Bool
is_local s = binding s == 0

-- a symbol has a section or a number, not SHN_UNDEF
abbrev pub is_defined : Symbol → Bool
is_defined s = not (s.st_shndx == 0)

-- a text begins at a place of these strings, and a byte 00 ends it there
abbrev pub is_ended : List ℕ → ℕ → Bool
is_ended strings at = list_any (λ b. b == 0) (drop at strings)

-- an entry is wrong: its name does not end, its binding is not known, or it is in no section that
-- is there; from SHN_LORESERVE on, FF00, st_shndx is no section's number
abbrev pub is_wrong_symbol : List ℕ → ℕ → Symbol → Bool
is_wrong_symbol strings count s =
    not (is_ended strings s.st_name)
    || nat_lt 2 (binding s)
    || nat_lt s.st_shndx 0xFF00 && nat_le count s.st_shndx

-- SHN_COMMON and the other reserved section indices, but for SHN_ABS
abbrev pub is_common : Symbol → Bool
is_common s = nat_le 0xFF00 s.st_shndx && not (s.st_shndx == 0xFFF1)

abbrev pub symbol_number : Symbol → ℕ
symbol_number s = s.number

-- the bytes of a section in the file
abbrev pub bytes_in : List ℕ → Section → List ℕ
bytes_in file s = slice_range file s.sh_offset (s.sh_offset + s.sh_size)

-- the strings of the symbol table
abbrev pub strings_bytes : List ℕ → List Section → List ℕ
strings_bytes file sections = option_map_or (bytes_in file) (string_table sections) []

-- a second symbol table
abbrev pub second_table : List Section → Section → Option ℕ
second_table sections table =
    option_map section_number
    (find (λ s. is_symbol_table s && not (table.number == s.number)) sections)

-- the checks of the table's form: there is no other, its size, and its string table
unfoldable pub form_fault : ℕ → List Section → Section → Option ObjFault
form_fault object sections table =
    first_object_fault
    (object_fails_at object 5 (second_table sections table)
    ∷ object_fails object 5 table.number (not (table.sh_size % 16 == 0))
    ∷ object_fails object 5 table.number (is_none (strings_of_table sections table))
    ∷ [])

-- the first symbol that is wrong, and the first that is common
abbrev pub first_wrong : List ℕ → ℕ → List Symbol → Option ℕ
first_wrong strings count symbols =
    option_map symbol_number (find (is_wrong_symbol strings count) symbols)

abbrev pub first_common : List Symbol → Option ℕ
first_common symbols = option_map symbol_number (find is_common symbols)

-- the checks of a table, and of its symbols one by one: Symbols and Common
unfoldable pub symbol_entries_fault : Start → List ℕ → List Section → Section → Option ObjFault
symbol_entries_fault start file sections table =
    let symbols = symbols_in start file (strings_place sections) table in
    first_object_fault
    (form_fault start.object sections table
    ∷ object_fails_at start.object 5 (first_wrong (strings_bytes file sections) (length sections) symbols)
    ∷ object_fails_at start.object 6 (first_common symbols)
    ∷ [])

-- the first check that the symbol table fails, if there is one
unfoldable pub symbol_fault : Start → List ℕ → Option ObjFault
symbol_fault start file =
    let sections = sections_of start file in
    option_map_or (symbol_entries_fault start file sections) (symbol_table sections) None
