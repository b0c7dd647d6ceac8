-- The file of a program: the text at 00400000 to be read and executed, the data at 10000000 to be read and written, where
-- there is any, and no sections. It begins with the text.
use Rattle.std.specs.Prelude.{◌≡◌, ℕ, List, [], ◌∷◌, map, length}
use Rattle.elf_definition.specs.declared.parts.Parts.{Parts}
use Rattle.elf_definition.specs.Parts.{PartSegment, part_segment}
use Rattle.elf_definition.specs.FileFields.{words}
use Rattle.elf_definition.specs.File.{elf_file}
use Rattle.mips_asm.specs.Program.{data_words, text_words}

-- a segment all of whose bytes are in the file
abbrev pub whole_segment : ℕ → ℕ → List ℕ → PartSegment
whole_segment address flags bytes = record {
  address = address;
  flags = flags;
  memory = length bytes;
  contents = bytes;
}

abbrev pub data_segments : List ℕ → List PartSegment
data_segments [] = []
data_segments (b ∷ bytes) = whole_segment 0x10000000 6 (b ∷ bytes) ∷ []

abbrev pub segments_of : List ℕ → List ℕ → List PartSegment
segments_of text data_bytes = whole_segment 0x00400000 5 text ∷ data_segments data_bytes

-- the parts of the program with these bytes of text and of data
abbrev pub IsProgram : List ℕ → List ℕ → Parts → Type 0
IsProgram text data_bytes parts =
    (parts.entry ≡ 0x00400000) × (map part_segment parts.segments.items ≡ segments_of text data_bytes)
    × (parts.sections.items ≡ [])

-- the file that is written of the program with these bytes of text and of data
abbrev pub IsFileOf : List ℕ → List ℕ → List ℕ → Type 0
IsFileOf text data_bytes file = (parts : Parts) × IsProgram text data_bytes parts
    × (file ≡ elf_file parts)

-- the file of an assembly text
abbrev pub IsAssembled : List ℕ → List ℕ → Type 0
IsAssembled text file = IsFileOf (words (text_words text)) (words (data_words text)) file
