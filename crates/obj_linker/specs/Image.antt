-- The bytes of the two segments in the file before anything is relocated: the text, and behind it the data.
use Rattle.std.specs.Prelude.{ℕ, ◌-◌, if◌then◌else◌, List, [], ◌∷◌, ◌++◌, replicate}
use Rattle.obj_linker.specs.declared.group.Group.{Group}
use Rattle.obj_linker.specs.declared.group.Group.TheVariants.{Code, Constants, Data}
use Rattle.obj_reader.specs.declared.section.Section.{Section}
use Rattle.obj_linker.specs.Layout.{is_in, next_end, section_start, text_start, data_start, code_end}
use Rattle.obj_linker.specs.Names.{object_bytes}
use Rattle.obj_reader.specs.Sections.{has_bytes}
use Rattle.obj_reader.specs.Symbols.{bytes_in}

-- what a section holds: its bytes in its object, or zeros
abbrev pub contents_of : List (List ℕ) → Section → List ℕ
contents_of files s =
    if has_bytes s then bytes_in (object_bytes files s.object) s else replicate s.sh_size 0

-- a section behind an address: zeros up to its start, and what it holds
abbrev pub placed_bytes : List (List ℕ) → Group → ℕ → Section → List ℕ
placed_bytes files group at s =
    if is_in group s then replicate (section_start at s - at) 0 ++ contents_of files s else []

-- the sections of a group, where the first is placed behind an address
abbrev pub group_bytes : List (List ℕ) → Group → ℕ → List Section → List ℕ
group_bytes files group at [] = []
group_bytes files group at (s ∷ sections) =
    placed_bytes files group at s
    ++ group_bytes files group (next_end group at s) sections

-- the code, the constants and the data
unfoldable pub linked_bytes : List (List ℕ) → List Section → List ℕ
linked_bytes files sections =
    group_bytes files Code text_start sections
    ++ group_bytes files Constants (code_end sections) sections
    ++ group_bytes files Data data_start sections
