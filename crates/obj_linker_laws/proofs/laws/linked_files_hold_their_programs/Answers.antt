use Rattle.std.proofs.Common.{◌≡◌, ◌-◌, [], ◌∷◌, Some, inl, inr, ◌⊎◌, sym, ap, ◌∙◌, arith}
use Rattle.elf_definition.specs.Area.{code_ranges}
use Rattle.elf_definition.specs.Header.{header_of, order_of}
use Rattle.elf_definition.specs.Segments.{live}
use Rattle.elf_definition.specs.declared.parts.Parts.{Parts}
use Rattle.mips_asm_laws.proofs.Contents.{entry_read, order_read, parts_read}
use Rattle.mips_asm_laws.proofs.Programs.{have_words}
use Rattle.mips_asm_laws.specs.Reading.{contents_in, with_memory}
use Rattle.obj_linker.specs.Layout.{code_end, text_end, text_start, zeros_end}
use Rattle.obj_linker.proofs.ProgramLemmas.{writable}
use Rattle.obj_linker_laws.specs.Held.{image_in, sections_in}
use Rattle.obj_linker_laws.specs.Reading.{placed_contents}
use Rattle.obj_linker_laws.proofs.Files.{code_range, shaped_code}
use Rattle.obj_linker_laws.proofs.Shapes.{OneSegment, TwoSegments, contents_are, low_entry, shaped, short_image, small_contents}
use Rattle.obj_linker_laws.proofs.laws.linked_files_hold_their_programs.Goals as goal

pub returns-clause-entry : goal.returns-clause-entry
returns-clause-entry c files entry file is =
    let low = low_entry files entry is.0 is.1 in
    is.1 ∙ ap (λ n. Some n) (sym (ap (λ f. (header_of f).e_entry) is.2.2 ∙ entry_read is.2.0 (omega (arith, low, is.2.1.entry)) ∙ is.2.1.entry))

pub returns-clause-order : goal.returns-clause-order
returns-clause-order c files entry file is = ap order_of is.2.2 ∙ order_read is.2.0

pub returns-clause-segments : goal.returns-clause-segments
returns-clause-segments c files entry file none is =
    let all = sections_in files in
    let parts = is.2.0 in
    let contents = contents_are is.0 (code_end all) (text_end all) (zeros_end all) (image_in files) parts is.2.1 in
    ap (λ f. contents_in f (live f)) is.2.2
    ∙ parts_read parts (writable is.0 (code_end all) (text_end all) (zeros_end all) (image_in files) parts (short_image files entry none) is.2.1)
    (have_words parts.segments.items (placed_contents files) contents (small_contents files entry none))
    ∙ ap with_memory contents

pub returns-clause-code : goal.returns-clause-code
returns-clause-code c files entry file none is some = by (shaped files entry file none is).0 (shaped files entry file none is).1
  where
    by : (parts : Parts) → OneSegment files file parts ⊎ TwoSegments files file parts → code_ranges file ≡ code_range (code_end (sections_in files) - text_start) ∷ []
    by parts (inl s) = shaped_code file parts.entry _ 1 _ _ s some
    by parts (inr s) = shaped_code file parts.entry _ 2 _ _ s.1 some
