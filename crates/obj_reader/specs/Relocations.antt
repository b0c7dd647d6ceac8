-- System V ABI, "Relocation": the relocations of an object, and their checks.
use Rattle.std.specs.Prelude.{ℕ, ◌+◌, ◌*◌, ◌/◌, ◌%◌, Bool, not, ◌&&◌, ◌||◌, ◌==◌, nat_lt, nat_le, if◌then◌else◌, List, [], length, map, flat_map, Option, Some, None, option_map, slice_get, option_and_then}
use Rattle.std.specs.List.{find, range_with_len}
use Rattle.std.specs.Option.{option_map_or}
use Rattle.elf_definition.specs.Header.{word}
use Rattle.obj_reader.specs.declared.relocation.Relocation.{Relocation}
use Rattle.obj_reader.specs.declared.section.Section.{Section}
use Rattle.obj_reader.specs.declared.start.Start.{Start}
use Rattle.obj_reader.specs.Fault.{first_place}
use Rattle.obj_reader.specs.Sections.{sections_of, is_for_placed, is_relocations, is_with_addends, has_bytes, is_placed}
use Rattle.obj_reader.specs.Symbols.{symbols_of}

-- the k-th entry of a section, of 8 bytes: r_offset, and r_info, a symbol's number and a type.
-- The section that it changes, and its symbol, are numbered through.
unfoldable pub relocation : Start → List ℕ → Section → ℕ → Relocation
relocation start file s k = let at = s.sh_offset + 8 * k in record {
  object = start.object;
  section = start.section + s.sh_info;
  r_offset = word file at;
  symbol = start.symbol + word file (at + 4) / 256;
  r_type = word file (at + 4) % 256;
}

abbrev pub entries_of : Start → List ℕ → Section → List Relocation
entries_of start file s = map (relocation start file s) (range_with_len 0 (s.sh_size / 8))

-- the relocations of the placed sections: by their section's number, then by the table's order
abbrev pub placed_entries : Start → List ℕ → List Section → Section → List Relocation
placed_entries start file sections s =
    if is_relocations s && is_for_placed sections s then entries_of start file s else []

unfoldable pub relocations_of : Start → List ℕ → List Relocation
relocations_of start file =
    let sections = sections_of start file in
    flat_map (placed_entries start file sections) sections

-- an entry names no symbol below a limit, or is for no aligned word of a section with bytes
abbrev pub is_wrong_relocation : ℕ → Section → Relocation → Bool
is_wrong_relocation limit target r =
    nat_le limit r.symbol || not (has_bytes target) || not (r.r_offset % 4 == 0)
    || nat_lt target.sh_size (r.r_offset + 4)

abbrev pub relocation_offset : Relocation → ℕ
relocation_offset r = r.r_offset

-- the fault of a section of relocations for a placed section: one with addends, one of a wrong
-- size, or its first entry that is wrong
abbrev pub relocation_entries_fault : Start → List ℕ → ℕ → Section → Section → Option ℕ
relocation_entries_fault start file limit s target =
    if is_with_addends s || not (s.sh_size % 8 == 0) then Some s.number
    else option_map relocation_offset (find (is_wrong_relocation limit target) (entries_of start file s))

-- the section that relocations are for, where it is placed
abbrev pub only_placed : Section → Option Section
only_placed s = if is_placed s then Some s else None

abbrev pub placed_target : List Section → Section → Option Section
placed_target sections s = option_and_then only_placed (slice_get sections s.sh_info)

abbrev pub relocation_target_fault : Start → List ℕ → ℕ → List Section → Section → Option ℕ
relocation_target_fault start file limit sections s =
    if is_with_addends s || is_relocations s
    then option_map_or (relocation_entries_fault start file limit s) (placed_target sections s) None
    else None

-- the place of the first fault of the relocations
unfoldable pub relocations_fault : Start → List ℕ → Option ℕ
relocations_fault start file =
    let sections = sections_of start file in
    let limit = start.symbol + length (symbols_of start file) in
    first_place (relocation_target_fault start file limit sections) sections

-- MIPS psABI, "Relocation Types": R_MIPS_NONE, R_MIPS_32, R_MIPS_26, R_MIPS_HI16 and R_MIPS_LO16
abbrev pub is_known_type : ℕ → Bool
is_known_type t = t == 0 || t == 2 || t == 4 || t == 5 || t == 6

abbrev pub has_other_type : Relocation → Bool
has_other_type r = not (is_known_type r.r_type)

-- R_MIPS_HI16 and R_MIPS_LO16: the two halves of an address
abbrev pub is_high : Relocation → Bool
is_high r = r.r_type == 5

abbrev pub is_low : Relocation → Bool
is_low r = r.r_type == 6

-- a relocation changes its word by its symbol: it is not R_MIPS_NONE
abbrev pub needs_symbol : Relocation → Bool
needs_symbol r = r.r_type == 2 || r.r_type == 4 || is_high r || is_low r
