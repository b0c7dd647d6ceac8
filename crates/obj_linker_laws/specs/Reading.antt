-- What is read of the file of linked objects.
use Rattle.std.specs.Prelude.{ℕ, ◌-◌, ◌/◌, List, ◌∷◌}
use Rattle.elf_definition.specs.Parts.{PartSegment}
use Rattle.obj_reader.specs.declared.section.Section.{Section}
use Rattle.obj_linker.specs.Layout.{code_end, text_end, text_start, zeros_end}
use Rattle.obj_linker.specs.Program.{linked_data, text_segment}
use Rattle.obj_linker_laws.specs.Held.{image_in, sections_in}

-- the text, and the data where there is any
abbrev pub contents_of : List ℕ → ℕ → ℕ → List PartSegment
contents_of image text_end zeros_end =
    text_segment image text_end ∷ linked_data image text_end zeros_end

abbrev pub placed_contents : List (List ℕ) → List PartSegment
placed_contents files =
    contents_of (image_in files) (text_end (sections_in files)) (zeros_end (sections_in files))

-- the number of whole words of the code
abbrev pub code_words : List Section → ℕ
code_words sections = (code_end sections - text_start) / 4
