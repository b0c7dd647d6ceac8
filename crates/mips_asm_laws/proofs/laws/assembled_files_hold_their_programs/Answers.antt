use Rattle.std.proofs.Common.{ap, arith, length, ◌∙◌}
use Rattle.elf_definition.specs.Header.{header_of, order_of}
use Rattle.elf_definition.specs.FileFields.{words}
use Rattle.mips_asm.specs.Program.{data_words, text_words}
use Rattle.mips_asm_laws.proofs.Contents.{entry_read, order_read}
use Rattle.mips_asm_laws.proofs.Sizes.{length_words, short_segments}
use Rattle.mips_asm_laws.proofs.Programs.{program_code, program_read}
use Rattle.mips_asm_laws.proofs.laws.assembled_files_hold_their_programs.Goals as goal

pub returns-clause-entry : goal.returns-clause-entry
returns-clause-entry c text file is =
    ap (λ f. (header_of f).e_entry) is.2 ∙ entry_read is.0 (omega (arith, is.1.0)) ∙ is.1.0

pub returns-clause-order : goal.returns-clause-order
returns-clause-order c text file is = ap order_of is.2 ∙ order_read is.0

pub returns-clause-segments : goal.returns-clause-segments
returns-clause-segments c text file sound is =
    let short = short_segments text sound in
    program_read (words (text_words text)) (words (data_words text)) file is short.0 short.1

pub returns-clause-code : goal.returns-clause-code
returns-clause-code c text file sound some is =
    let short = short_segments text sound in
    program_code (words (text_words text)) (words (data_words text)) file (length (text_words text)) is short.0 short.1 (length_words (text_words text)) some
