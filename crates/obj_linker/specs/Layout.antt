-- Where the sections of all objects are placed, in the order of the objects and of their sections.
use Rattle.std.specs.Prelude.{ℕ, ◌+◌, ◌-◌, ◌*◌, ◌/◌, Bool, not, ◌&&◌, ◌||◌, nat_lt, max, if◌then◌else◌, List, [], ◌∷◌, ◌++◌}
use Rattle.obj_linker.specs.declared.group.Group.{Group}
use Rattle.obj_linker.specs.declared.group.Group.TheVariants.{Code, Constants, Data, Zeros}
use Rattle.obj_reader.specs.declared.section.Section.{Section}
use Rattle.obj_reader.specs.Sections.{is_code_object_section, is_placed, is_variable, has_bytes, has_zeros}

-- code; others that are only read; variables with bytes; variables that begin as zeros
abbrev pub is_in : Group → Section → Bool
is_in Code s = is_code_object_section s
is_in Constants s = is_placed s && not (is_code_object_section s) && not (is_variable s)
is_in Data s = is_placed s && not (is_code_object_section s) && is_variable s && has_bytes s
is_in Zeros s = is_placed s && not (is_code_object_section s) && is_variable s && has_zeros s

-- the first multiple of an alignment from an address on
abbrev pub rounded : ℕ → ℕ → ℕ
rounded alignment at = (at + (max alignment 1 - 1)) / max alignment 1 * max alignment 1

-- where a section begins that is placed behind an address, and where it ends
abbrev pub section_start : ℕ → Section → ℕ
section_start at s = rounded s.sh_addralign at

abbrev pub next_end : Group → ℕ → Section → ℕ
next_end group at s = if is_in group s then section_start at s + s.sh_size else at

-- the end of the sections of a group among these, where the first is placed behind an address
abbrev pub group_end : Group → ℕ → List Section → ℕ
group_end group at [] = at
group_end group at (s ∷ sections) = group_end group (next_end group at s) sections

-- the text begins at 00400000 with the code, and the data at 10000000
abbrev pub text_start : ℕ
text_start = 0x00400000

abbrev pub data_start : ℕ
data_start = 0x10000000

unfoldable pub code_end : List Section → ℕ
code_end sections = group_end Code text_start sections

unfoldable pub text_end : List Section → ℕ
text_end sections = group_end Constants (code_end sections) sections

unfoldable pub data_end : List Section → ℕ
data_end sections = group_end Data data_start sections

unfoldable pub zeros_end : List Section → ℕ
zeros_end sections = group_end Zeros (data_end sections) sections

-- the text has at most 16,777,216 bytes, the data as many, and 1,073,741,824 with the zeros behind them
abbrev pub max_text : ℕ
max_text = 0x01400000

abbrev pub max_data : ℕ
max_data = 0x11000000

abbrev pub max_zeros : ℕ
max_zeros = 0x50000000

unfoldable pub is_too_large : List Section → Bool
is_too_large sections =
    nat_lt max_text (text_end sections) || nat_lt max_data (data_end sections)
    || nat_lt max_zeros (zeros_end sections)

-- where a section of all is placed, given those before it: behind those of its group; 0 where it gets no place
abbrev pub section_place : List Section → List Section → Section → ℕ
section_place all before s =
    if is_in Code s then section_start (group_end Code text_start before) s
    else (if is_in Constants s then section_start (group_end Constants (code_end all) before) s
    else (if is_in Data s then section_start (group_end Data data_start before) s
    else (if is_in Zeros s then section_start (group_end Zeros (data_end all) before) s else 0)))

abbrev pub places_from : List Section → List Section → List Section → List ℕ
places_from all before [] = []
places_from all before (s ∷ later) =
    section_place all before s ∷ places_from all (before ++ s ∷ []) later

unfoldable pub places_of : List Section → List ℕ
places_of all = places_from all [] all
