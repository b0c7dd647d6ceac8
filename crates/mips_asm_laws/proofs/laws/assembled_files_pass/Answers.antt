use Rattle.std.proofs.Common.{ℕ, List, arith, subst}
use Rattle.elf_definition.specs.FileFields.{words}
use Rattle.mips_asm.specs.File.{IsFileOf}
use Rattle.mips_asm.specs.Program.{data_words, text_words}
use Rattle.mips_asm_laws.proofs.Sizes.{length_words, short_segments}
use Rattle.mips_asm_laws.proofs.Programs.{empty_program, program_passes}
use Rattle.mips_asm_laws.proofs.laws.assembled_files_pass.Goals as goal

pub returns-clause-passes : goal.returns-clause-passes
returns-clause-passes c text file sound some is =
    let short = short_segments text sound in
    program_passes (words (text_words text)) (words (data_words text)) file is short.0 short.1 (omega (arith, some, length_words (text_words text)))

pub returns-clause-no_code : goal.returns-clause-no_code
returns-clause-no_code c text file sound none is =
    empty_program (words (data_words text)) file (subst (λ (ws : List ℕ). IsFileOf (words ws) (words (data_words text)) file) none is) (short_segments text sound).1
