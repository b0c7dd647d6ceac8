-- The files of a translated program, and what their classes take of a class machine, by the number of pages that are mapped.
use Rattle.std.specs.Prelude.{ℕ, ◌*◌, ◌+◌, string_bytes}
use Rattle.nv_values.specs.Names.{Text}
use Rattle.translate_program.specs.declared.named_file.NamedFile.{NamedFile}

-- the name of a file, as bytes
abbrev pub named_file_name : NamedFile → Text
named_file_name file = string_bytes file.name

-- Words of the region. An array of n places takes n + 2. Two arrays have a place for each of the 524,288 pages, and each mapped page has
-- one of 1,024 ints.
abbrev pub need : ℕ → ℕ
need mapped = 2 * 524290 + 1026 * mapped + 64

-- Instructions for so many steps: 512 for each and for the start, and what filling the pages takes.
abbrev pub allow : ℕ → ℕ → ℕ
allow mapped steps = 512 * (steps + 1) + 131072 * (mapped + 4)

-- Instructions with a meter of so many turns: 1024 for each, for the start and for the end, and what
-- filling the pages takes.
abbrev pub meter_allow : ℕ → ℕ → ℕ
meter_allow mapped turns = 1024 * (turns + 2) + 131072 * (mapped + 4)
